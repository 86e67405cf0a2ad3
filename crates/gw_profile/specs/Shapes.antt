-- The parts of a profile, without where they lie in memory.
use Rattle.std.specs.Prelude.{ℕ, List, Option}
use Rattle.gw_profile.specs.declared.shape.Usage.{Usage}
use Rattle.gw_profile.specs.declared.shape.Card.{Card}
use Rattle.gw_profile.specs.declared.shape.Count.{Count}

pub record SubValue : Type 0 where
  pub number : ℕ
  pub usage : Usage
  pub len : Option ℕ
  pub table : Option (List ℕ)

pub record CompValue : Type 0 where
  pub number : ℕ
  pub usage : Usage
  pub subs : List SubValue

pub record FieldValue : Type 0 where
  pub number : ℕ
  pub usage : Usage
  pub card : Card
  pub comps : List CompValue

pub record SegmentValue : Type 0 where
  pub name : List ℕ
  pub label : List ℕ
  pub usage : Usage
  pub card : Card
  pub fields : List FieldValue

pub record GroupValue : Type 0 where
  pub label : List ℕ
  pub usage : Usage
  pub card : Card

-- a list of nodes: each a segment, or a group with its own nodes
pub data Forest : Type 0 where
  nothing : Forest
  segment : (s : SegmentValue) (rest : Forest) → Forest
  group : (g : GroupValue) (nodes rest : Forest) → Forest

pub record TableValue : Type 0 where
  pub name : List ℕ
  pub values : List (List ℕ)

pub record ProfileValue : Type 0 where
  pub name : List ℕ
  pub count : Count
  pub tables : List TableValue
  pub nodes : Forest
