-- The line of an answer's MSH, part by part.
use Rattle.std.specs.Prelude.{ℕ, List, ◌∷◌, ◌++◌}
use Rattle.gw_er7.specs.Written.{repetition_text}
use Rattle.gw_ack.specs.Headers.{HeaderValue}

-- MSH-3 to MSH-6, each behind a separator
abbrev pub parties : HeaderValue → List ℕ
parties h =
    124 ∷ repetition_text h.receiving_application ++ 124 ∷ repetition_text h.receiving_facility
    ++ 124 ∷ repetition_text h.sending_application ++ 124 ∷ repetition_text h.sending_facility
