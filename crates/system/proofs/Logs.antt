-- A log wakes and merges, promises, and signs heads. Assumes nothing.
use Rattle.std.proofs.Common.{◌≡◌, ℕ, suc, Bool, true, false, cond, eqb, ltb, ◌⊎◌, List, [], ◌∷◌, ◌++◌, sym, refl, ap, subst, inl, inr, le_refl}
use mathlib.Core.List.Memᴰ
use Rattle.std.proofs.lemmas.Bool.{cond_both, eqb-true, eqb-false, cond-true, cond-false, eq-eqb, ne_eqb}
use Rattle.model.specs.Lists.{◌∈◌}
use Rattle.model.specs.Objects.{Certificate, Sct}
use Rattle.model.specs.World.{World, start, apply, update}
use Rattle.model.specs.World.Event.{Merges}
use Rattle.model.specs.Rules.{Steps}
use Rattle.model.specs.Rules.Steps.{onward}
use Rattle.parties.specs.Coding.{has, leaf_of, leaves_of}
use Rattle.parties.specs.Log.{LogView, is_merged, promised, promise_of, merged_with, merges, head_of, on_submit, on_get_head}
use Rattle.parties.specs.Log
use Rattle.system.specs.Setup.{Setup, Sound, Collides, rules_of}
use Rattle.system.specs.Runs.{State, with_log}
use Rattle.system.specs.Stands.{LogStands, Stands, Reaches}
use Rattle.system.proofs.Adding.{log_more}
use Rattle.system.proofs.Framing.{also, parts_more, quiet_log, quiet_issued, quiet_revoked, heard_with, heard_more, unchanged, merges_log, merges_authority}
use Rattle.system.proofs.Digests.{stands_there}

-- two functions, each with another value at one argument
pub update_two : {A B : Type 0} (i : ℕ) (x : A) (f : ℕ → A) (y : B) (g : ℕ → B) (j : ℕ) (P : A → B → Type 0) → (j ≡ i → P x y) → (¬ (j ≡ i) → P (f j) (g j)) →
    P (update i x f j) (update i y g j)
update_two i x f y g j P hit miss = cases (eqb j i) refl
  where
    cases : (b : Bool) → eqb j i ≡ b → P (cond (eqb j i) x (f j)) (cond (eqb j i) y (g j))
    cases true e = subst (λ (c : Bool). P (cond c x (f j)) (cond c y (g j))) (sym e) (hit (eqb-true j i e))
    cases false e = subst (λ (c : Bool). P (cond c x (f j)) (cond c y (g j))) (sym e) (miss (eqb-false j i e))

pub update_one : {A : Type 0} (i : ℕ) (x : A) (f : ℕ → A) (j : ℕ) (P : A → Type 0) → (j ≡ i → P x) → (¬ (j ≡ i) → P (f j)) → P (update i x f j)
update_one i x f j P hit miss = cond_both (eqb j i) x (f j) P (λ e. hit (eqb-true j i e)) (λ e. miss (eqb-false j i e))

-- a log's view alone changed, for the same world
module _ (S : Setup) (s : State) (l : ℕ) (u : LogView) {w : World} (st : Stands S (with_log l u s) w) where
  pub other_log : (j : ℕ) → S.honest_log j ≡ true → ¬ (j ≡ l) → LogStands S s.hashed w.past s.clock j (s.logs j) (w.entries j)
  other_log j h ne = subst (λ (x : LogView). LogStands S s.hashed w.past s.clock j x (w.entries j)) (cond-false (eqb j l) u (s.logs j) (ne_eqb j l ne)) (st.logs j h)

  pub own_log : S.honest_log l ≡ true → LogStands S s.hashed w.past s.clock l u (w.entries l)
  own_log h = subst (λ (x : LogView). LogStands S s.hashed w.past s.clock l x (w.entries l)) (cond-true (eqb l l) u (s.logs l) (eq-eqb l l refl)) (st.logs l h)

  pub with_log_lem : (v : LogView) → LogStands S s.hashed w.past s.clock l v (w.entries l) → Stands S (with_log l v s) w
  with_log_lem v new = record {
    now = st.now;
    signed = st.signed;
    wanted = st.wanted;
    published = st.published;
    logs = λ k honest. update_one l v s.logs k (λ x. LogStands S s.hashed w.past s.clock k x (w.entries k))
        (λ q. subst (λ (i : ℕ). LogStands S s.hashed w.past s.clock i v (w.entries i)) (sym q) new) (λ ne. other_log k honest ne);
    authorities = st.authorities;
    seen = st.seen;
    lists = st.lists;
    kept = st.kept;
    heard = λ e m. heard_more S (unchanged (with_log l u s) (with_log l v s) refl refl refl) e (st.heard e m);
  }

-- a state is one with its own log's view
pub as_with_log : (S : Setup) (s : State) (l : ℕ) {w : World} → Stands S s w → Stands S (with_log l (s.logs l) s) w
as_with_log S s l {w} st = record {
  now = st.now;
  signed = st.signed;
  wanted = st.wanted;
  published = st.published;
  logs = λ k honest. update_one l (s.logs l) s.logs k (λ x. LogStands S s.hashed w.past s.clock k x (w.entries k))
      (λ q. subst (λ (i : ℕ). LogStands S s.hashed w.past s.clock k (s.logs i) (w.entries k)) q (st.logs k honest)) (λ ne. st.logs k honest);
  authorities = st.authorities;
  seen = st.seen;
  lists = st.lists;
  kept = st.kept;
  heard = λ e m. heard_more S (unchanged s (with_log l (s.logs l) s) refl refl refl) e (st.heard e m);
}

-- Merging

abbrev viewed : ℕ → ℕ → List Certificate → List Certificate → LogView
viewed number now es cs = record { number = number; now = now; merged = es; pending = cs }

module _ (S : Setup) (sound : Sound S) (s : State) (l : ℕ) (honest : S.honest_log l ≡ true) where
  module _ (number now : ℕ) (es : List Certificate) (c : Certificate) (cs : List Certificate) {w : World} {k : ℕ} (run : Steps (rules_of S) k start w)
      (st : Stands S (with_log l (viewed number now es (c ∷ cs)) s) w) where
    own : LogStands S s.hashed w.past s.clock l (viewed number now es (c ∷ cs)) (w.entries l)
    own = own_log S s l (viewed number now es (c ∷ cs)) st honest

    -- it is new, and merged
    merge_new : Reaches S (with_log l (viewed number now (es ++ (c ∷ [])) cs) s)
    merge_new = let p = parts_more S st (λ t m. m) also (le_refl _) in record {
      events = suc k;
      world = apply w (Merges l c);
      run = onward run (Merges l c) (λ h. record { sct = record { log = l; certificate = c; at = now }; promised = own.owed c (Memᴰ.head refl); log = refl; certificate = refl });
      stands = record {
        now = st.now;
        signed = p.signed;
        wanted = p.wanted;
        published = p.published;
        logs = λ j h. update_two l (viewed number now (es ++ (c ∷ [])) cs) s.logs (w.entries l ++ (c ∷ [])) w.entries j
            (λ v xs. LogStands S s.hashed (Merges l c ∷ w.past) s.clock j v xs) (λ q. mine j q) (λ q. others j h q);
        authorities = λ a h. p.authorities a h (quiet_issued S st (merges_authority l c a)) (quiet_revoked S st (merges_authority l c a));
        seen = p.seen;
        lists = p.lists;
        kept = p.kept;
        heard = λ e m. heard_with S (with_log l (viewed number now (es ++ (c ∷ [])) cs) s) (unchanged (with_log l (viewed number now es (c ∷ cs)) s) (with_log l (viewed number now (es ++ (c ∷ [])) cs) s) refl refl refl) st (Merges l c) tt e m;
      };
    }
      where
        kept_new : (x : Sct) → (x.certificate ∈ es) ⊎ ((x.certificate ∈ c ∷ cs) × (x.at ≡ now)) → (x.certificate ∈ es ++ (c ∷ [])) ⊎ ((x.certificate ∈ cs) × (x.at ≡ now))
        kept_new x (inl m) = inl (Memᴰ.append_left (c ∷ []) m)
        kept_new x (inr (m, q)) = elim (Memᴰ.cases_cons m) [ inl z ↦ inl (Memᴰ.append_right es (Memᴰ.head z)) | inr n ↦ inr (n, q) ]

        mine : (j : ℕ) → j ≡ l → LogStands S s.hashed (Merges l c ∷ w.past) s.clock j (viewed number now (es ++ (c ∷ [])) cs) (w.entries l ++ (c ∷ []))
        mine j q = subst (λ (i : ℕ). LogStands S s.hashed (Merges l c ∷ w.past) s.clock i (viewed number now (es ++ (c ∷ [])) cs) (w.entries l ++ (c ∷ []))) (sym q) (record {
          number = own.number;
          early = own.early;
          same = ap (λ xs. xs ++ (c ∷ [])) own.same;
          merged = λ d m. elim (Memᴰ.append_cases es m)
              [ inl n ↦ own.merged d n | inr n ↦ own.texted d (Memᴰ.head (Memᴰ.eq_of_singleton n)) ];
          texted = λ d m. own.texted d (Memᴰ.tail m);
          owed = λ d m. Memᴰ.tail (own.owed d (Memᴰ.tail m));
          kept = λ x e h. kept_new x (own.kept x e (quiet_log S st (merges_log l c l) x e h));
        })

        others : (j : ℕ) → S.honest_log j ≡ true → ¬ (j ≡ l) → LogStands S s.hashed (Merges l c ∷ w.past) s.clock j (s.logs j) (w.entries j)
        others j h ne = log_more S (λ t m. m) also (le_refl _) (quiet_log S st (merges_log l c j)) (other_log S s l (viewed number now es (c ∷ cs)) st j h ne)

    -- its digest is there: so it is there, or two texts collide
    merge_again : has (leaf_of S.coding c) (leaves_of S.coding es) ≡ true → Reaches S (with_log l (viewed number now es cs) s) ⊎ Collides S s.hashed
    merge_again h = elim (stands_there S sound c es (own.texted c (Memᴰ.head refl)) own.merged h) [ inl m ↦ inl (skipped m) | inr z ↦ inr z ]
      where
        kept_there : c ∈ es → (x : Sct) → (x.certificate ∈ es) ⊎ ((x.certificate ∈ c ∷ cs) × (x.at ≡ now)) → (x.certificate ∈ es) ⊎ ((x.certificate ∈ cs) × (x.at ≡ now))
        kept_there m x (inl i) = inl i
        kept_there m x (inr (i, q)) = elim (Memᴰ.cases_cons i) [ inl z ↦ inl (subst (λ (d : Certificate). d ∈ es) (sym z) m) | inr n ↦ inr (n, q) ]

        skipped : c ∈ es → Reaches S (with_log l (viewed number now es cs) s)
        skipped m = record {
          events = k;
          world = w;
          run = run;
          stands = with_log_lem S s l (viewed number now es (c ∷ cs)) st (viewed number now es cs) (record {
            number = own.number;
            early = own.early;
            same = own.same;
            merged = own.merged;
            texted = λ d i. own.texted d (Memᴰ.tail i);
            owed = λ d i. own.owed d (Memᴰ.tail i);
            kept = λ x e i. kept_there m x (own.kept x e i);
          });
        }

  -- all that is pending is merged
  merge_first : (number now : ℕ) (es : List Certificate) (c : Certificate) (cs : List Certificate) (known : Bool) → has (leaf_of S.coding c) (leaves_of S.coding es) ≡ known →
      ((xs : List Certificate) (w : World) (k : ℕ) → Steps (rules_of S) k start w → Stands S (with_log l (viewed number now xs cs) s) w →
      Reaches S (with_log l (viewed number now (merged_with S.coding xs cs) []) s) ⊎ Collides S s.hashed) →
      (w : World) (k : ℕ) → Steps (rules_of S) k start w → Stands S (with_log l (viewed number now es (c ∷ cs)) s) w →
      Reaches S (with_log l (viewed number now (merged_with S.coding (cond known es (es ++ (c ∷ []))) cs) []) s) ⊎ Collides S s.hashed
  merge_first number now es c cs true e rest w k run st = elim (merge_again number now es c cs run st e) [ inl r ↦ rest es r.world r.events r.run r.stands | inr z ↦ inr z ]
  merge_first number now es c cs false e rest w k run st = let r = merge_new number now es c cs run st in rest (es ++ (c ∷ [])) r.world r.events r.run r.stands

  merge_all : (number now : ℕ) (es cs : List Certificate) (w : World) (k : ℕ) → Steps (rules_of S) k start w → Stands S (with_log l (viewed number now es cs) s) w →
      Reaches S (with_log l (viewed number now (merged_with S.coding es cs) []) s) ⊎ Collides S s.hashed
  unfolding merged_with
  merge_all number now es [] w k run st = inl (record { events = k; world = w; run = run; stands = st })
  merge_all number now es (c ∷ cs) w k run st =
      merge_first number now es c cs (has (leaf_of S.coding c) (leaves_of S.coding es)) refl (λ xs. merge_all number now xs cs) w k run st

  -- a log that wakes comes to the clock's tick
  wake : (v : LogView) (w : World) (k : ℕ) → Steps (rules_of S) k start w → Stands S (with_log l v s) w → Reaches S (with_log l (merges S.coding s.clock v) s) ⊎ Collides S s.hashed
  wake v w k run st = elim (merge_all v.number v.now v.merged v.pending w k run st) [ inl r ↦ inl (awake r) | inr z ↦ inr z ]
    where
      awake : Reaches S (with_log l (viewed v.number v.now (merged_with S.coding v.merged v.pending) []) s) → Reaches S (with_log l (merges S.coding s.clock v) s)
      awake r = let x = own_log S s l (viewed v.number v.now (merged_with S.coding v.merged v.pending) []) r.stands honest in record {
        events = r.events;
        world = r.world;
        run = r.run;
        stands = with_log_lem S s l (viewed v.number v.now (merged_with S.coding v.merged v.pending) []) r.stands (merges S.coding s.clock v) (record {
          number = x.number;
          early = le_refl _;
          same = x.same;
          merged = x.merged;
          texted = λ d i. elim i [ ];
          owed = λ d i. elim i [ ];
          kept = λ y e i. elim (x.kept y e i) [ inl m ↦ inl m | inr (m, q) ↦ elim m [ ] ];
        });
      }

pub log_wakes : (S : Setup) (sound : Sound S) (s : State) (l : ℕ) → S.honest_log l ≡ true → {w : World} {k : ℕ} → Steps (rules_of S) k start w → Stands S s w →
    Reaches S (with_log l (Log.on_tick S.coding s.clock (s.logs l)).view s) ⊎ Collides S s.hashed
log_wakes S sound s l honest {w} {k} run st = cond_both (ltb (s.logs l).now s.clock) (merges S.coding s.clock (s.logs l)) (s.logs l) (λ v. Reaches S (with_log l v s) ⊎ Collides S s.hashed)
    (λ e. wake S sound s l honest (s.logs l) w k run (as_with_log S s l st)) (λ e. inl (record { events = k; world = w; run = run; stands = as_with_log S s l st }))
