mod Alike
mod Reading
mod Denying
mod Founding
mod Standing
