-- The accounts of an authority by serials, and the serials that a list has. Assumes nothing.
use Rattle.std.proofs.Common.{◌≡◌, ℕ, zero, suc, ◌+◌, ◌≤◌, Bool, true, false, cond, List, [], ◌∷◌, ◌++◌, length, Some, None, Option, sym, refl, ap, ◌∙◌, subst, inl, inr, le_trans, le_refl, arith}
use mathlib.Core.Bool.{false≢true}
use mathlib.Core.List.Memᴰ
use Rattle.std.proofs.lemmas.Bool.{cond_both, cond-true, leb-true, le-leb}
use Rattle.model.specs.Lists.{◌∈◌, Rising}
use Rattle.parties.specs.Authority.{Account, account_of, with_account, is_recent, listed_from}
use Rattle.parties.proofs.Faults.{not_some, same_some}

-- by serials

pub from_one : (xs : List Account) → account_of zero xs ≡ None
unfolding account_of
from_one xs = refl

pub no_account : (xs : List Account) → account_of (suc (length xs)) xs ≡ None
unfolding account_of
no_account [] = refl
no_account (x ∷ xs) = no_account xs

pub new_account : (xs : List Account) (a : Account) → account_of (suc (length xs)) (xs ++ (a ∷ [])) ≡ Some a
unfolding account_of
new_account [] a = refl
new_account (x ∷ xs) a = new_account xs a

pub account_stays : (i : ℕ) (xs ys : List Account) (a : Account) → account_of i xs ≡ Some a → account_of i (xs ++ ys) ≡ Some a
unfolding account_of
account_stays zero xs ys a e = not_some a (sym e)
account_stays (suc i) [] ys a e = not_some a (sym e)
account_stays (suc zero) (x ∷ xs) ys a e = e
account_stays (suc (suc i)) (x ∷ xs) ys a e = account_stays (suc i) xs ys a e

pub account_exchanged : (i : ℕ) (xs : List Account) (a b : Account) → account_of i xs ≡ Some a → account_of i (with_account i b xs) ≡ Some b
unfolding account_of with_account
account_exchanged zero xs a b e = not_some a (sym e)
account_exchanged (suc i) [] a b e = not_some a (sym e)
account_exchanged (suc zero) (x ∷ xs) a b e = refl
account_exchanged (suc (suc i)) (x ∷ xs) a b e = account_exchanged (suc i) xs a b e

pub another_account : (i j : ℕ) (xs : List Account) (b : Account) → ¬ (j ≡ i) → account_of j (with_account i b xs) ≡ account_of j xs
unfolding account_of with_account
another_account zero j xs b n = refl
another_account (suc i) j [] b n = refl
another_account (suc zero) zero (x ∷ xs) b n = refl
another_account (suc zero) (suc zero) (x ∷ xs) b n = absurd (n refl)
another_account (suc zero) (suc (suc j)) (x ∷ xs) b n = refl
another_account (suc (suc i)) zero (x ∷ xs) b n = refl
another_account (suc (suc i)) (suc zero) (x ∷ xs) b n = refl
another_account (suc (suc i)) (suc (suc j)) (x ∷ xs) b n = another_account (suc i) (suc j) xs b (λ e. n (ap suc e))

pub as_many_accounts : (i : ℕ) (xs : List Account) (b : Account) → length (with_account i b xs) ≡ length xs
unfolding with_account
as_many_accounts zero xs b = refl
as_many_accounts (suc i) [] b = refl
as_many_accounts (suc zero) (x ∷ xs) b = refl
as_many_accounts (suc (suc i)) (x ∷ xs) b = ap suc (as_many_accounts (suc i) xs b)

-- the serials of a list

listed_above : (l t i : ℕ) (xs : List Account) (y : ℕ) → y ∈ listed_from l t i xs → i ≤ y
unfolding listed_from
listed_above l t i [] y = λ m. elim m [ ]
listed_above l t i (a ∷ xs) y = cond_both (is_recent l t a.revoked) (i ∷ listed_from l t (suc i) xs) (listed_from l t (suc i) xs) (λ zs. y ∈ zs → i ≤ y)
    (λ e m. elim (Memᴰ.cases_cons m) [ inl q ↦ omega (arith, q) | inr n ↦ let b : suc i ≤ y = listed_above l t (suc i) xs y n in omega (arith, b) ])
    (λ e m. let b : suc i ≤ y = listed_above l t (suc i) xs y m in omega (arith, b))

pub listed_rises : (l t i : ℕ) (xs : List Account) → Rising (listed_from l t i xs)
unfolding listed_from
listed_rises l t i [] = tt
listed_rises l t i (a ∷ xs) = cond_both (is_recent l t a.revoked) (i ∷ listed_from l t (suc i) xs) (listed_from l t (suc i) xs) Rising
    (λ e. ((λ y m. listed_above l t (suc i) xs y m), listed_rises l t (suc i) xs)) (λ e. listed_rises l t (suc i) xs)

-- a serial that is so many after i is listed
pub record Listed (l t i : ℕ) (xs : List Account) (y : ℕ) : Type 0 where
  pub more : ℕ
  pub serial : y ≡ i + more
  pub account : Account
  pub drawn : account_of (suc more) xs ≡ Some account
  pub recent : is_recent l t account.revoked ≡ true

pub was_revoked : (l t i : ℕ) (xs : List Account) (y : ℕ) → y ∈ listed_from l t i xs → Listed l t i xs y
unfolding listed_from account_of
was_revoked l t i [] y = λ m. elim m [ ]
was_revoked l t i (a ∷ xs) y = cond_both (is_recent l t a.revoked) (i ∷ listed_from l t (suc i) xs) (listed_from l t (suc i) xs) (λ zs. y ∈ zs → Listed l t i (a ∷ xs) y)
    (λ e m. elim (Memᴰ.cases_cons m) [ inl q ↦ record { more = 0; serial = omega (arith, q); account = a; drawn = refl; recent = e } | inr n ↦ further (was_revoked l t (suc i) xs y n) ])
    (λ e m. further (was_revoked l t (suc i) xs y m))
  where
    further : Listed l t (suc i) xs y → Listed l t i (a ∷ xs) y
    further x = record { more = suc x.more; serial = omega (arith, x.serial); account = x.account; drawn = x.drawn; recent = x.recent }

pub is_listed : (l t i k : ℕ) (xs : List Account) (a : Account) → account_of (suc k) xs ≡ Some a → is_recent l t a.revoked ≡ true → i + k ∈ listed_from l t i xs
unfolding listed_from account_of
is_listed l t i k [] a e r = not_some a (sym e)
is_listed l t i zero (x ∷ xs) a e r =
    subst (λ (ys : List ℕ). i + 0 ∈ ys) (sym (cond-true (is_recent l t x.revoked) (i ∷ listed_from l t (suc i) xs) (listed_from l t (suc i) xs) (ap (λ (y : Account). is_recent l t y.revoked) (same_some x a e) ∙ r)))
    (Memᴰ.head (omega arith))
is_listed l t i (suc k) (x ∷ xs) a e r = let m : i + suc k ∈ listed_from l t (suc i) xs = subst (λ (n : ℕ). n ∈ listed_from l t (suc i) xs) (omega arith) (is_listed l t (suc i) k xs a e r) in
    cond_both (is_recent l t x.revoked) (i ∷ listed_from l t (suc i) xs) (listed_from l t (suc i) xs) (λ ys. i + suc k ∈ ys) (λ q. Memᴰ.tail m) (λ q. m)

-- and how many

pub none_listed : (l t i : ℕ) → listed_from l t i [] ≡ []
unfolding listed_from
none_listed l t i = refl

recent_before : (l t u : ℕ) (r : Option ℕ) → t ≤ u → is_recent l u r ≡ true → is_recent l t r ≡ true
recent_before l t u None h e = e
recent_before l t u (Some at) h e = le-leb _ _ (le_trans h (leb-true _ _ e))

pub fewer_later : (l t u i : ℕ) (xs : List Account) → t ≤ u → length (listed_from l u i xs) ≤ length (listed_from l t i xs)
unfolding listed_from
fewer_later l t u i [] h = le_refl _
fewer_later l t u i (a ∷ xs) h = let rest : length (listed_from l u (suc i) xs) ≤ length (listed_from l t (suc i) xs) = fewer_later l t u (suc i) xs h in
    cond_both (is_recent l t a.revoked) (i ∷ listed_from l t (suc i) xs) (listed_from l t (suc i) xs)
    (λ ys. length (cond (is_recent l u a.revoked) (i ∷ listed_from l u (suc i) xs) (listed_from l u (suc i) xs)) ≤ length ys)
    (λ e. cond_both (is_recent l u a.revoked) (i ∷ listed_from l u (suc i) xs) (listed_from l u (suc i) xs) (λ ys. length ys ≤ suc (length (listed_from l t (suc i) xs))) (λ f. omega (arith, rest)) (λ f. omega (arith, rest)))
    (λ e. cond_both (is_recent l u a.revoked) (i ∷ listed_from l u (suc i) xs) (listed_from l u (suc i) xs) (λ ys. length ys ≤ length (listed_from l t (suc i) xs))
    (λ f. absurd (false≢true (sym e ∙ recent_before l t u a.revoked h f))) (λ f. rest))

pub not_listed_yet : (l t i : ℕ) (xs : List Account) (a : Account) → a.revoked ≡ None → listed_from l t i (xs ++ (a ∷ [])) ≡ listed_from l t i xs
unfolding listed_from
not_listed_yet l t i [] a e = ap (λ r. cond (is_recent l t r) (i ∷ []) []) e
not_listed_yet l t i (x ∷ xs) a e = ap {B = List ℕ} (λ ys. cond (is_recent l t x.revoked) (i ∷ ys) ys) (not_listed_yet l t (suc i) xs a e)

pub listed_the_same : (l t i j : ℕ) (xs : List Account) (a b : Account) → account_of j xs ≡ Some a → b.revoked ≡ a.revoked → listed_from l t i (with_account j b xs) ≡ listed_from l t i xs
unfolding listed_from account_of with_account
listed_the_same l t i zero xs a b e q = refl
listed_the_same l t i (suc j) [] a b e q = refl
listed_the_same l t i (suc zero) (x ∷ xs) a b e q =
    ap {B = List ℕ} (λ r. cond (is_recent l t r) (i ∷ listed_from l t (suc i) xs) (listed_from l t (suc i) xs)) (q ∙ ap (λ (y : Account). y.revoked) (sym (same_some x a e)))
listed_the_same l t i (suc (suc j)) (x ∷ xs) a b e q = ap {B = List ℕ} (λ ys. cond (is_recent l t x.revoked) (i ∷ ys) ys) (listed_the_same l t (suc i) (suc j) xs a b e q)

pub one_more_listed : (l t i j : ℕ) (xs : List Account) (b : Account) → length (listed_from l t i (with_account j b xs)) ≤ suc (length (listed_from l t i xs))
unfolding listed_from with_account
one_more_listed l t i zero xs b = omega arith
one_more_listed l t i (suc j) [] b = omega arith
one_more_listed l t i (suc zero) (x ∷ xs) b = let n : ℕ = length (listed_from l t (suc i) xs) in
    cond_both (is_recent l t b.revoked) (i ∷ listed_from l t (suc i) xs) (listed_from l t (suc i) xs)
    (λ ys. length ys ≤ suc (length (cond (is_recent l t x.revoked) (i ∷ listed_from l t (suc i) xs) (listed_from l t (suc i) xs))))
    (λ e. cond_both (is_recent l t x.revoked) (i ∷ listed_from l t (suc i) xs) (listed_from l t (suc i) xs) (λ ys. suc n ≤ suc (length ys)) (λ f. omega arith) (λ f. le_refl _))
    (λ e. cond_both (is_recent l t x.revoked) (i ∷ listed_from l t (suc i) xs) (listed_from l t (suc i) xs) (λ ys. n ≤ suc (length ys)) (λ f. omega arith) (λ f. omega arith))
one_more_listed l t i (suc (suc j)) (x ∷ xs) b = let rest : length (listed_from l t (suc i) (with_account (suc j) b xs)) ≤ suc (length (listed_from l t (suc i) xs)) = one_more_listed l t (suc i) (suc j) xs b in
    by (is_recent l t x.revoked) (listed_from l t (suc i) (with_account (suc j) b xs)) (listed_from l t (suc i) xs) rest
  where
    by : (r : Bool) (ys zs : List ℕ) → length ys ≤ suc (length zs) → length (cond r (i ∷ ys) ys) ≤ suc (length (cond r (i ∷ zs) zs))
    by true ys zs h = omega (arith, h)
    by false ys zs h = h
