-- What each verdict on evidence says: that all parts are so, or which is the first that isn't. Assumes nothing.
use Rattle.std.specs.Prelude.{◌≡◌, ◌+◌, ◌^◌, ◌<◌, ◌≤◌, true, ◌↔◌, List, length}
use Rattle.model.specs.Lists.{◌∈◌}
use Rattle.wire_theory.specs.Bytes.{Bytes}
use Rattle.wire_theory.specs.Messages.{SignedSct, SignedHead, Settings}
use Rattle.parties.specs.Coding.{Coding, root_of}
use Rattle.parties.specs.Evidence.{Verdict, judge}
use Rattle.parties.specs.Evidence.Verdict.{Convicts, Refused, NotSo}

-- The parts

module _ (K : Coding) (s : Settings) (p : SignedSct) (h : SignedHead) (ds : List Bytes) where
  abbrev pub Known : Type 0
  Known = (K.knows_log p.log ≡ true) × (K.knows_log h.log ≡ true)

  abbrev pub Signed : Type 0
  Signed = (p.seal ≡ K.seal_sct p) × (h.seal ≡ K.seal_head h)

  abbrev pub OneLog : Type 0
  OneLog = p.log ≡ h.log

  abbrev pub Late : Type 0
  Late = p.at + s.mmd ≤ h.at

  abbrev pub Missing : Type 0
  Missing = ¬ (p.digest ∈ ds)

  abbrev pub GiveTheRoot : Type 0
  GiveTheRoot = (length ds ≡ h.count) × (root_of K ds ≡ h.root)

  abbrev pub InRange : Type 0
  InRange = (p.at < 2 ^ 63) × (h.at < 2 ^ 63)

  -- what each verdict says
  pub data Tells : Verdict → Type 0 where
    unknown : ¬ Known → Tells (Refused 2)
    unsigned : Known → ¬ Signed → Tells (Refused 3)
    two_logs : Known → Signed → ¬ OneLog → Tells (NotSo 1)
    early : Known → Signed → OneLog → ¬ Late → Tells (NotSo 2)
    there : Known → Signed → OneLog → Late → ¬ Missing → Tells (NotSo 3)
    another_root : Known → Signed → OneLog → Late → Missing → ¬ GiveTheRoot → Tells (NotSo 4)
    out_of_range : Known → Signed → OneLog → Late → Missing → GiveTheRoot → ¬ InRange → Tells (Refused 14)
    convicts : Known → Signed → OneLog → Late → Missing → GiveTheRoot → InRange → Tells Convicts

-- a verdict is given exactly if what it says is so
abbrev pub JudgesRight : Type 0
JudgesRight = (K : Coding) (s : Settings) (p : SignedSct) (h : SignedHead) (ds : List Bytes) (x : Verdict) → (judge K s p h ds ≡ x) ↔ Tells K s p h ds x
