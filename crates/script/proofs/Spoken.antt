-- The words of a command, and what is wrong with them, word by word. Assumes nothing.
use Rattle.std.proofs.Common.{◌≡◌, ℕ, zero, suc, ◌+◌, ◌<◌, ◌≤◌, List, [], ◌∷◌, ◌++◌, length, get_or, take, drop, IsErrAnd, Err, codes, Option, Result, sym, refl, ◌∙◌, subst, ⊎_elim, arith, Bor, inl, None, Some, rules, MatchOption, MatchResult}
use Rattle.std.specs.Option.{ok_or}
use Rattle.std.proofs.lemmas.List.{map_more}
use Rattle.std.proofs.lemmas.Result.{err_from_is_err_and}
use Rattle.script.specs.declared.command.Fault.{Fault}
use Rattle.script.specs.declared.command.Fault.TheVariants.{NotADigest}
use Rattle.merkle.specs.declared.digest.Digest.{Digest}
use Rattle.script.specs.Texts.{Hex, NoHex}
use Rattle.script.specs.Grammar.{Word, Wrong, Hexes, BadNumber, BadDigest, Stands, digests_of, numbers_of, texts, verbs}

pub bad_number : (v : Word) (ws : List (Bor Word)) (r : Bor Word) (f : Fault) → ((args : List Word) → numbers_of v args ≡ take 2 args) → 2 ≤ length ws →
    BadNumber (get_or ws 0 r).now (get_or ws 1 r).now f → Wrong (v ∷ texts ws) f
bad_number v [] r f two h bad = absurd (omega arith)
bad_number v (a ∷ []) r f two h bad = absurd (omega arith)
bad_number v (a ∷ (b ∷ ws)) r f two h bad =
    let among : Stands (take 2 (texts (a ∷ (b ∷ ws)))) bad.0.now = ⊎_elim (λ e. (0, omega arith, sym e)) (λ e. (1, omega arith, sym e)) bad.2 in
    subst (Wrong (v ∷ texts (a ∷ (b ∷ ws)))) (sym bad.1) (subst (λ ns. Stands ns bad.0.now) (sym (two (texts (a ∷ (b ∷ ws))))) among, bad.3)

hexes_push : (ws : List Word) (ds : List Digest) (w : Word) (d : Digest) → Hexes ws ds → Hex w d → Hexes (ws ++ (w ∷ [])) (ds ++ (d ∷ []))
hexes_push [] [] w d h x = (x, tt)
hexes_push [] (e ∷ ds) w d h x = absurd h
hexes_push (v ∷ ws) [] w d h x = absurd h
hexes_push (v ∷ ws) (e ∷ ds) w d h x = (h.0, hexes_push ws ds w d h.1 x)

pub hexes_more : (ws : List (Bor Word)) (i : ℕ) (r : Bor Word) (ds more : List Digest) (d : Digest) → i < length ws → Hexes (texts (take i ws)) ds →
    Hex (get_or ws i r).now d → more ≡ ds ++ (d ∷ []) → Hexes (texts (take (i + 1) ws)) more
hexes_more ws i r ds more d l h x e = rw (map_more (λ (w : Bor Word). w.now) ws i r l, e) (hexes_push _ ds _ d h x)

stands_at : (ws : List (Bor Word)) (i : ℕ) (r : Bor Word) → i < length ws → Stands (texts ws) (get_or ws i r).now
stands_at [] i r l = absurd (omega arith)
stands_at (w ∷ ws) zero r l = (0, omega arith, refl)
stands_at (w ∷ ws) (suc i) r l = let s = stands_at ws i r (omega arith) in (suc s.0, omega (arith, s.1), s.2)

pub bad_digest_at : (ws : List (Bor Word)) (i : ℕ) (r : Bor Word) (o : Option Digest) (f : Fault) → i < length ws →
    MatchOption o (NoHex (get_or ws i r).now) (Hex (get_or ws i r).now) → ok_or o (NotADigest (get_or ws i r)) ≡ Err f → BadDigest (texts ws) f
bad_digest_at ws i r None f l none e = inl (get_or ws i r, search rules, stands_at ws i r l, none)
bad_digest_at ws i r (Some d) f l read e = search rules

texts_behind : (ws : List (Bor Word)) (n : ℕ) → texts (drop n ws) ≡ drop n (texts ws)
texts_behind ws zero = refl
texts_behind [] (suc n) = refl
texts_behind (w ∷ ws) (suc n) = texts_behind ws n

pub bad_digest : (v : Word) (ws : List (Bor Word)) (n : ℕ) (f : Fault) → ((args : List Word) → digests_of v args ≡ drop n args) → BadDigest (texts (drop n ws)) f → Wrong (v ∷ texts ws) f
bad_digest v ws n f behind =
    ⊎_elim
    (λ bad. subst (Wrong (v ∷ texts ws)) (sym bad.1) (subst (λ ds. Stands ds bad.0.now) (texts_behind ws n ∙ sym (behind (texts ws))) bad.2, bad.3))
    (λ e. subst (Wrong (v ∷ texts ws)) (sym e) tt)

pub no_verb : (w : Word) → (w ≡ codes "enter" → ⊥) → (w ≡ codes "top" → ⊥) → (w ≡ codes "way" → ⊥) → (w ≡ codes "proof" → ⊥) → (w ≡ codes "leads" → ⊥) →
    (w ≡ codes "goes-on" → ⊥) → Stands verbs w → ⊥
no_verb w a b c d e f (zero, l, h) = a (sym h)
no_verb w a b c d e f (suc zero, l, h) = b (sym h)
no_verb w a b c d e f (suc (suc zero), l, h) = c (sym h)
no_verb w a b c d e f (suc (suc (suc zero)), l, h) = d (sym h)
no_verb w a b c d e f (suc (suc (suc (suc zero))), l, h) = e (sym h)
no_verb w a b c d e f (suc (suc (suc (suc (suc zero)))), l, h) = f (sym h)
no_verb w a b c d e f (suc (suc (suc (suc (suc (suc k))))), l, h) = omega arith

-- what a `?` hands on
pub handed_on : {T : Type 0} (P : T → Type 0) (W : Fault → Type 0) (r : Result T Fault) (f : Fault) → IsErrAnd r (λ y. y ≡ f) → W f → MatchResult r P W
handed_on P W r f e w = let p = err_from_is_err_and r e in rw (p.1, p.2) w
