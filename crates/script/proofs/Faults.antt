-- Where words say a command, no fault but want of memory is so. Assumes nothing.
use Rattle.std.proofs.Common.{◌≡◌, ℕ, zero, suc, List, [], ◌∷◌, vec_items, codes, sym, refl, ◌∙◌, subst, true≢false, arith, le-leb}
use Rattle.merkle.specs.declared.digest.Digest.{Digest}
use Rattle.script.specs.declared.command.Command.TheVariants.{Enter, Top, TopOf, Way, Proof, Leads, GoesOn}
use Rattle.script.specs.declared.command.Fault.{Fault}
use Rattle.script.specs.declared.command.Fault.TheVariants.{UnknownCommand, Takes, NotANumber, NotADigest, NoMemory}
use Rattle.script.specs.Texts.{Decimal, NoDecimal, Hex, NoHex}
use Rattle.script.specs.Grammar.{Word, Hexes, Stands, Wrong, FaultsAreFaults}

no_word : (w : Word) → Stands [] w → ⊥
no_word w s = omega (arith, s.1)

one_number : (v w : Word) (m : ℕ) → Decimal v m → Stands (v ∷ []) w → NoDecimal w → ⊥
one_number v w m d (zero, l, e) no_number = no_number m (subst (λ (x : Word). Decimal x m) e d)
one_number v w m d (suc k, l, e) no_number = omega arith

two_numbers : (u v w : Word) (m n : ℕ) → Decimal u m → Decimal v n → Stands (u ∷ (v ∷ [])) w → NoDecimal w → ⊥
two_numbers u v w m n d e (zero, l, h) no_number = no_number m (subst (λ (x : Word). Decimal x m) h d)
two_numbers u v w m n d e (suc k, l, h) no_number = one_number v w n e (k, omega arith, h) no_number

all_digests : (hs : List Word) (ds : List Digest) (w : Word) → Hexes hs ds → Stands hs w → NoHex w → ⊥
all_digests [] ds w x s no-digest = no_word w s
all_digests (h ∷ hs) [] w x s no-digest = x
all_digests (h ∷ hs) (d ∷ ds) w x (zero, l, e) no-digest = no-digest d (subst (λ (y : Word). Hex y d) e x.0)
all_digests (h ∷ hs) (d ∷ ds) w x (suc k, l, e) no-digest = all_digests hs ds w x.1 (k, omega arith, e) no-digest

enter_right : (t : Word) (f : Fault) → Wrong (codes "enter" ∷ (t ∷ [])) f → f ≡ NoMemory
enter_right t (UnknownCommand w) bad = absurd (bad.1 (0, omega arith, bad.0))
enter_right t (Takes usage) bad = absurd (true≢false bad.1)
enter_right t (NotANumber w) bad = absurd (no_word _ bad.0)
enter_right t (NotADigest w) bad = absurd (no_word _ bad.0)
enter_right t NoMemory bad = refl

top_right : (f : Fault) → Wrong (codes "top" ∷ []) f → f ≡ NoMemory
top_right (UnknownCommand w) bad = absurd (bad.1 (1, omega arith, bad.0))
top_right (Takes usage) bad = absurd (true≢false bad.1)
top_right (NotANumber w) bad = absurd (no_word _ bad.0)
top_right (NotADigest w) bad = absurd (no_word _ bad.0)
top_right NoMemory bad = refl

top_of_right : (v : Word) (n : ℕ) → Decimal v n → (f : Fault) → Wrong (codes "top" ∷ (v ∷ [])) f → f ≡ NoMemory
top_of_right v n d (UnknownCommand w) bad = absurd (bad.1 (1, omega arith, bad.0))
top_of_right v n d (Takes usage) bad = absurd (true≢false bad.1)
top_of_right v n d (NotANumber w) bad = absurd (one_number v _ n d bad.0 bad.1)
top_of_right v n d (NotADigest w) bad = absurd (no_word _ bad.0)
top_of_right v n d NoMemory bad = refl

way_right : (u v : Word) (m n : ℕ) → Decimal u m → Decimal v n → (f : Fault) → Wrong (codes "way" ∷ (u ∷ (v ∷ []))) f → f ≡ NoMemory
way_right u v m n d e (UnknownCommand w) bad = absurd (bad.1 (2, omega arith, bad.0))
way_right u v m n d e (Takes usage) bad = absurd (true≢false bad.1)
way_right u v m n d e (NotANumber w) bad = absurd (two_numbers u v _ m n d e bad.0 bad.1)
way_right u v m n d e (NotADigest w) bad = absurd (no_word _ bad.0)
way_right u v m n d e NoMemory bad = refl

proof_right : (u v : Word) (m n : ℕ) → Decimal u m → Decimal v n → (f : Fault) → Wrong (codes "proof" ∷ (u ∷ (v ∷ []))) f → f ≡ NoMemory
proof_right u v m n d e (UnknownCommand w) bad = absurd (bad.1 (3, omega arith, bad.0))
proof_right u v m n d e (Takes usage) bad = absurd (true≢false bad.1)
proof_right u v m n d e (NotANumber w) bad = absurd (two_numbers u v _ m n d e bad.0 bad.1)
proof_right u v m n d e (NotADigest w) bad = absurd (no_word _ bad.0)
proof_right u v m n d e NoMemory bad = refl

leads_right : (u v t : Word) (hs : List Word) (ds : List Digest) (m n : ℕ) → Decimal u m → Decimal v n → Hexes hs ds → (f : Fault) →
    Wrong (codes "leads" ∷ (u ∷ (v ∷ (t ∷ hs)))) f → f ≡ NoMemory
leads_right u v t hs ds m n d e x (UnknownCommand w) bad = absurd (bad.1 (4, omega arith, bad.0))
leads_right u v t hs ds m n d e x (Takes usage) bad = absurd (true≢false (sym (le-leb 3 _ (omega arith)) ∙ bad.1))
leads_right u v t hs ds m n d e x (NotANumber w) bad = absurd (two_numbers u v _ m n d e bad.0 bad.1)
leads_right u v t hs ds m n d e x (NotADigest w) bad = absurd (all_digests hs ds _ x bad.0 bad.1)
leads_right u v t hs ds m n d e x NoMemory bad = refl

goes_on_right : (u v : Word) (hs : List Word) (ds : List Digest) (m n : ℕ) → Decimal u m → Decimal v n → Hexes hs ds → (f : Fault) →
    Wrong (codes "goes-on" ∷ (u ∷ (v ∷ hs))) f → f ≡ NoMemory
goes_on_right u v hs ds m n d e x (UnknownCommand w) bad = absurd (bad.1 (5, omega arith, bad.0))
goes_on_right u v hs ds m n d e x (Takes usage) bad = absurd (true≢false (sym (le-leb 2 _ (omega arith)) ∙ bad.1))
goes_on_right u v hs ds m n d e x (NotANumber w) bad = absurd (two_numbers u v _ m n d e bad.0 bad.1)
goes_on_right u v hs ds m n d e x (NotADigest w) bad = absurd (all_digests hs ds _ x bad.0 bad.1)
goes_on_right u v hs ds m n d e x NoMemory bad = refl

pub faults_are_faults : FaultsAreFaults
faults_are_faults (Enter text) ws f says bad = enter_right text.now f (subst (λ (x : List Word). Wrong x f) says bad)
faults_are_faults Top ws f says bad = top_right f (subst (λ (x : List Word). Wrong x f) says bad)
faults_are_faults (TopOf count) ws f (v, e, d) bad = top_of_right v count d f (subst (λ (x : List Word). Wrong x f) e bad)
faults_are_faults (Way place count) ws f (u, v, e, m, n) bad = way_right u v place count m n f (subst (λ (x : List Word). Wrong x f) e bad)
faults_are_faults (Proof from to) ws f (u, v, e, m, n) bad = proof_right u v from to m n f (subst (λ (x : List Word). Wrong x f) e bad)
faults_are_faults (Leads place count text path) ws f (u, v, hs, e, m, n, x) bad =
    leads_right u v text.now hs (vec_items path) place count m n x f (subst (λ (y : List Word). Wrong y f) e bad)
faults_are_faults (GoesOn from to proof) ws f (u, v, hs, e, m, n, x) bad =
    goes_on_right u v hs (vec_items proof) from to m n x f (subst (λ (y : List Word). Wrong y f) e bad)
