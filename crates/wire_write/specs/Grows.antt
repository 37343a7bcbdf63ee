-- A vector behind whose items bytes were appended. Assumes nothing.
use Rattle.std.specs.Prelude.{◌≡◌, ℕ, ◌≤◌, List, ◌++◌, vec_items, vec_capacity, Vec}
use Rattle.std.specs.declared.alloc.Global.{Global}

pub record Grows (before after : Vec ℕ Global) (part : List ℕ) : Type 0 where
  pub items : vec_items after ≡ vec_items before ++ part
  -- what was reserved stays so
  pub room : vec_capacity before ≤ vec_capacity after
