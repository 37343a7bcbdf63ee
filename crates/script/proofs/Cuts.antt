-- How a line is cut at its comment, behind blanks and behind a word. Assumes nothing.
use Rattle.std.proofs.Common.{◌≡◌, ℕ, zero, suc, ◌<◌, ◌≤◌, Bool, true, false, eqb, List, [], ◌∷◌, ◌++◌, map, length, get_or, take, drop, sym, refl, ap, ◌∙◌, subst, append_assoc, add-zero, arith, length-drop, get_or-drop, Bor, MatchBool}
use Rattle.std.specs.List.{IsFirstMatchOrLen}
use Rattle.std.proofs.lemmas.Bool.{cond-true, cond-false}
use Rattle.std.proofs.lemmas.List.{map_push, get_or_append_left, get_or_at, length-append}
use Rattle.script.specs.Words.{blank, spoken, longer, words}

-- no byte of x passes
abbrev Passes : (ℕ → Bool) → List ℕ → Type 0
Passes p x = (k : ℕ) → k < length x → p (get_or x k 0) ≡ false

behind : (p : ℕ → Bool) (b : ℕ) (x : List ℕ) → Passes p (b ∷ x) → Passes p x
behind p b x none k l = none (suc k) (omega arith)

-- x was split off the front of s, and t is left, unless that is done
abbrev pub SplitOff : (ℕ → Bool) → List ℕ → List ℕ → Bool → List ℕ → Type 0
SplitOff p s x done t = MatchBool done (s ≡ x) ((y : ℕ) × (s ≡ x ++ (y ∷ t))) × IsFirstMatchOrLen p s (length x)

-- the two ways that a split can go
split_off : (p : ℕ → Bool) (F : List ℕ → Type 0) (x : List ℕ) (done : Bool) (t : List ℕ) → (Passes p x → done ≡ true → F x) → ((y : ℕ) → Passes p x → done ≡ false → p y ≡ true → F (x ++ (y ∷ t))) →
    (s : List ℕ) → SplitOff p s x done t → F s
split_off p F x true t whole cut s (e, first) =
    subst (λ u. IsFirstMatchOrLen p u (length x) → F u) (sym e) (λ f. whole (λ k l. f.0 k 0 (omega arith) l) refl) first
split_off p F x false t whole cut s ((y, e), first) =
    subst (λ u. IsFirstMatchOrLen p u (length x) → F u) (sym e)
    (λ f.
    cut y
    (λ k l. ap p (sym (get_or_append_left x (y ∷ t) 0 k l)) ∙ f.0 k 0 (omega arith) l)
    refl
    (ap p (sym (get_or_at x y t 0 (length x) refl)) ∙ f.1 (omega (arith, length-append x (y ∷ t))) 0))
    first

spoken_whole : (x : List ℕ) → Passes (λ b. eqb b 35) x → spoken x ≡ x
unfolding spoken
spoken_whole [] none = refl
spoken_whole (b ∷ x) none = cond-false _ _ _ (none 0 (omega arith)) ∙ ap (λ t. b ∷ t) (spoken_whole x (behind (λ c. eqb c 35) b x none))

spoken_cut : (x t : List ℕ) (y : ℕ) → Passes (λ b. eqb b 35) x → eqb y 35 ≡ true → spoken (x ++ (y ∷ t)) ≡ x
unfolding spoken
spoken_cut [] t y none at = cond-true _ _ _ at
spoken_cut (b ∷ x) t y none at = cond-false _ _ _ (none 0 (omega arith)) ∙ ap (λ u. b ∷ u) (spoken_cut x t y (behind (λ c. eqb c 35) b x none) at)

pub spoken_split : (x : List ℕ) (done : Bool) (t s : List ℕ) → SplitOff (λ b. eqb b 35) s x done t → spoken s ≡ x
spoken_split x done t = split_off (λ b. eqb b 35) (λ s. spoken s ≡ x) x done t (λ none d. spoken_whole x none) (λ y none d at. spoken_cut x t y none at)

pub words_behind_blanks : (s : List ℕ) (n : ℕ) → ((k : ℕ) → k < n → blank (get_or s k 0) ≡ true) → words s ≡ words (drop n s)
unfolding words
words_behind_blanks s zero all = refl
words_behind_blanks [] (suc n) all = refl
words_behind_blanks (b ∷ s) (suc n) all = cond-true _ _ _ (all 0 (omega arith)) ∙ words_behind_blanks s n (λ k l. all (suc k) (omega arith))

-- a byte that is no blank, before one that is none, belongs to the word behind it
word_on : (b d : ℕ) (s : List ℕ) → blank b ≡ false → blank d ≡ false → words (b ∷ (d ∷ s)) ≡ longer b (words (d ∷ s))
unfolding words
word_on b d s h k = cond-false _ _ _ h ∙ cond-false _ _ _ k

-- a first word of at least one byte
pub words_from_word : (s : List ℕ) (n : ℕ) → suc n ≤ length s → ((k : ℕ) → k < suc n → blank (get_or s k 0) ≡ false) →
    (suc n < length s → blank (get_or s (suc n) 0) ≡ true) → words s ≡ take (suc n) s ∷ words (drop (suc n) s)
unfolding words
words_from_word [] n within all stops = absurd (omega arith)
words_from_word (b ∷ []) zero within all stops = cond-false _ _ _ (all 0 (omega arith))
words_from_word (b ∷ (d ∷ s)) zero within all stops = cond-false _ _ _ (all 0 (omega arith)) ∙ cond-true _ _ _ (stops (omega arith))
words_from_word (b ∷ []) (suc n) within all stops = absurd (omega arith)
words_from_word (b ∷ (d ∷ s)) (suc n) within all stops =
    word_on b d s (all 0 (omega arith)) (all 1 (omega arith)) ∙
    ap (longer b) (words_from_word (d ∷ s) n (omega arith) (λ k l. all (suc k) (omega arith)) (λ l. stops (omega arith)))

is_false : (b : Bool) → (b ≡ true → ⊥) → b ≡ false
is_false true h = absurd (h refl)
is_false false h = refl

is_true : (b : Bool) → (b ≡ false → ⊥) → b ≡ true
is_true true h = refl
is_true false h = absurd (h refl)

-- what is left behind all blanks at the front
pub behind_blanks : (s : List ℕ) (n : ℕ) → n ≤ length s → ((k : ℕ) → k < n → blank (get_or s k 0) ≡ true) → (n < length s → blank (get_or s n 0) ≡ true → ⊥) →
    (words (drop n s) ≡ words s) × (0 < length (drop n s) → blank (get_or (drop n s) 0 0) ≡ false) × (length (drop n s) ≤ length s)
behind_blanks s n within all stops = (
  sym (words_behind_blanks s n all),
  λ some. rw (get_or-drop n s 0 0, add-zero) (is_false _ (stops (omega (arith, length-drop n s)))),
  omega (arith, length-drop n s),
)

-- the first word of a line that begins with no blank
pub first_word : (s : List ℕ) (n : ℕ) → 0 < length s → blank (get_or s 0 0) ≡ false → n ≤ length s → ((k : ℕ) → k < n → blank (get_or s k 0) ≡ false) →
    (n < length s → blank (get_or s n 0) ≡ false → ⊥) → (0 < n) × (words s ≡ take n s ∷ words (drop n s))
first_word s zero some first within all stops = absurd (stops some first)
first_word s (suc n) some first within all stops = (omega arith, words_from_word s n within all (λ l. is_true _ (stops l)))

abbrev texts : List (Bor (List ℕ)) → List (List ℕ)
texts ws = map (λ w. w.now) ws

pub one_word_more : (found more : List (Bor (List ℕ))) (w : Bor (List ℕ)) (s after next : List ℕ) (all : List (List ℕ)) (n : ℕ) →
    more ≡ found ++ (w ∷ []) → w.now ≡ take n s → after ≡ drop n s → words next ≡ words after → words s ≡ take n s ∷ words (drop n s) →
    texts found ++ words s ≡ all → texts more ++ words next ≡ all
one_word_more found more w s after next all n pushed front back skipped cut whole =
    let last = ap texts pushed ∙ map_push (λ w. w.now) found w in
    let rest : words next ≡ words (drop n s) = skipped ∙ ap words back in
    (λ i. last i ++ rest i) ∙ append_assoc (texts found) (w.now ∷ []) (words (drop n s)) ∙ ap (λ t. texts found ++ (t ∷ words (drop n s))) front ∙ ap (λ t. texts found ++ t) (sym cut) ∙ whole
