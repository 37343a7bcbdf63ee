-- A relying party: the newest list of each authority, what it accepted, and what is still to be brought to monitors. Assumes nothing.
use Rattle.std.specs.Prelude.{ℕ, suc, ◌+◌, Bool, true, false, cond, not, ◌&&◌, ◌||◌, List, [], ◌∷◌, ◌++◌, length, Some, None, Option, ◌==◌, nat_le, nat_lt}
use Rattle.merkle_theory.specs.Tree.{root_from_path}
use Rattle.model.specs.Objects.{Certificate}
use Rattle.model.specs.World.{update}
use Rattle.wire_theory.specs.Bytes.{Bytes}
use Rattle.wire_theory.specs.Messages.{Message, SignedSct, SignedList, Settings, MonitorAnswer}
use Rattle.wire_theory.specs.Messages.Message.{bring, accepted}
use Rattle.wire_theory.specs.Messages.MonitorAnswer.{included, not_due, convicts, no_head_so_late}
use Rattle.parties.specs.Coding.{Coding, same_bytes, leaf_of, node_of, right_certificate, right_sct, right_head, right_list}
use Rattle.parties.specs.Steps.{Step, answers, Fault, ◌⇒◌, unless, too_large}
use Rattle.parties.specs.Evidence.{Verdict, judge}
use Rattle.parties.specs.Evidence.Verdict.{Convicts, Refused, NotSo}

-- what was accepted, by which promises and which list, and when; and for each promise when it is to be brought next: nothing once it is settled
pub record Kept : Type 0 where
  pub certificate : Certificate
  pub first : SignedSct
  pub second : SignedSct
  pub list : SignedList
  pub at : ℕ
  pub first_due : Option ℕ
  pub second_due : Option ℕ

pub record RelyingView : Type 0 where
  pub now : ℕ
  pub lists : ℕ → Option SignedList
  pub kept : List Kept

abbrev pub new_relying : RelyingView
new_relying = record { now = 0; lists = λ a. None; kept = [] }

-- Lists

abbrev pub with_list : SignedList → RelyingView → RelyingView
with_list b v = record { now = v.now; lists = update b.authority (Some b) v.lists; kept = v.kept }

abbrev pub is_older : SignedList → Option SignedList → Bool
is_older b None = false
is_older b (Some old) = nat_lt b.at old.at

-- of two lists of one tick the longer is gone by: within a tick an honest authority's only grow
abbrev pub is_news : SignedList → Option SignedList → Bool
is_news b None = true
is_news b (Some old) = nat_lt old.at b.at || nat_lt (length old.serials) (length b.serials)

abbrev pub is_fresh : Settings → ℕ → SignedList → Bool
is_fresh s t b = nat_le b.at t && nat_le t (b.at + s.freshness)

abbrev pub on_list : Coding → Settings → SignedList → RelyingView → Step RelyingView
on_list K s b v =
    unless (not (K.knows_authority b.authority) ⇒ 2 ∷ (not (right_list K b) ⇒ 3 ∷ (not (is_fresh s v.now b) ⇒ 10 ∷ (is_older b (v.lists b.authority) ⇒ 10 ∷ (too_large b.at ⇒ 14 ∷ []))))) v
    (answers (cond (is_news b (v.lists b.authority)) (with_list b v) v) accepted)

-- Presenting

unfoldable pub has_serial : ℕ → List ℕ → Bool
has_serial i [] = false
has_serial i (j ∷ js) = i == j || has_serial i js

abbrev pub has_fresh : Settings → ℕ → Option SignedList → Bool
has_fresh s t None = false
has_fresh s t (Some b) = is_fresh s t b

abbrev pub is_revoked_by : ℕ → Option SignedList → Bool
is_revoked_by serial None = false
is_revoked_by serial (Some b) = has_serial serial b.serials

-- a promise for this certificate, not of the future
abbrev pub is_for : Coding → ℕ → Certificate → SignedSct → Bool
is_for K t c p = same_bytes p.digest (leaf_of K c) && nat_le p.at t

abbrev pub faults_of_presented : Coding → Settings → ℕ → Certificate → SignedSct → SignedSct → Option SignedList → List Fault
faults_of_presented K s t c p q b =
    not (K.knows_authority c.issuer && (K.knows_log p.log && K.knows_log q.log)) ⇒ 2 ∷ (not (right_certificate K c && (right_sct K p && right_sct K q)) ⇒ 3 ∷
    (not (is_for K t c p && (is_for K t c q && not (p.log == q.log))) ⇒ 8 ∷ (nat_lt c.expiry t ⇒ 9 ∷ (not (has_fresh s t b) ⇒ 10 ∷ (is_revoked_by c.serial b ⇒ 11 ∷
    ((too_large c.serial || (too_large c.expiry || too_large t)) ⇒ 14 ∷ []))))))

-- it is brought first at the next tick
abbrev pub keeping : Certificate → SignedSct → SignedSct → SignedList → RelyingView → RelyingView
keeping c p q b v = record {
  now = v.now;
  lists = v.lists;
  kept = record { certificate = c; first = p; second = q; list = b; at = v.now; first_due = Some (suc v.now); second_due = Some (suc v.now) } ∷ v.kept;
}

abbrev pub accepts_by : Certificate → SignedSct → SignedSct → RelyingView → Option SignedList → Step RelyingView
accepts_by c p q v None = answers v (Message.refused 10)
accepts_by c p q v (Some b) = answers (keeping c p q b v) accepted

abbrev pub on_present : Coding → Settings → Certificate → SignedSct → SignedSct → RelyingView → Step RelyingView
on_present K s c p q v = let b = v.lists c.issuer in unless (faults_of_presented K s v.now c p q b) v (accepts_by c p q v b)

-- Bringing

abbrev pub is_now : ℕ → Option ℕ → Bool
is_now t None = false
is_now t (Some due) = nat_le due t

abbrev pub brings : ℕ → Kept → List Message
brings t k = cond (is_now t k.first_due) (bring k.certificate k.first ∷ []) [] ++ cond (is_now t k.second_due) (bring k.certificate k.second ∷ []) []

unfoldable pub brings_all : ℕ → List Kept → List Message
brings_all t [] = []
brings_all t (k ∷ ks) = brings t k ++ brings_all t ks

abbrev pub on_tick : ℕ → RelyingView → RelyingView
on_tick t v = cond (nat_lt t v.now) v (record { now = t; lists = v.lists; kept = v.kept })

abbrev pub leads_to : Bytes → Option Bytes → Bool
leads_to r None = false
leads_to r (Some d) = same_bytes d r

abbrev pub convicted : Verdict → Bool
convicted Convicts = true
convicted (Refused n) = false
convicted (NotSo n) = false

-- when a promise is to be brought again after an answer of the monitor's, which it checks: what doesn't hold is none
abbrev pub due_after : Coding → Settings → ℕ → SignedSct → MonitorAnswer → Option ℕ
due_after K s t p (included h place way) =
    cond (h.log == p.log && (right_head K h && leads_to h.root (root_from_path (node_of K) h.count place p.digest way))) None (Some (suc t))
due_after K s t p not_due = Some (p.at + s.mmd)
due_after K s t p (convicts h ds) = cond (convicted (judge K s p h ds)) None (Some (suc t))
due_after K s t p no_head_so_late = Some (suc t)

-- which of the two promises of an acceptance
pub data Which : Type 0 where
  First : Which
  Second : Which

abbrev pub settles : Coding → Settings → ℕ → Which → MonitorAnswer → Kept → Kept
settles K s t First a k = record
    { certificate = k.certificate; first = k.first; second = k.second; list = k.list; at = k.at; first_due = due_after K s t k.first a; second_due = k.second_due }
settles K s t Second a k = record
    { certificate = k.certificate; first = k.first; second = k.second; list = k.list; at = k.at; first_due = k.first_due; second_due = due_after K s t k.second a }

-- the acceptance that is so many back
unfoldable pub settles_at : Coding → Settings → ℕ → ℕ → Which → MonitorAnswer → List Kept → List Kept
settles_at K s t i which a [] = []
settles_at K s t ℕ.zero which a (k ∷ ks) = settles K s t which a k ∷ ks
settles_at K s t (suc i) which a (k ∷ ks) = k ∷ settles_at K s t i which a ks

abbrev pub on_answer : Coding → Settings → ℕ → Which → MonitorAnswer → RelyingView → RelyingView
on_answer K s i which a v = record { now = v.now; lists = v.lists; kept = settles_at K s v.now i which a v.kept }
