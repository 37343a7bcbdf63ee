-- The way up by one level, and what a step down adds to the way up.
use Rattle.std.proofs.Common.{◌≡◌, ℕ, zero, suc, ◌+◌, ◌-◌, ◌*◌, ◌/◌, ◌%◌, ◌<◌, ◌≤◌, Bool, true, false, eqb, List, [], ◌∷◌, ◌++◌, reverse, length, get_or, take, drop, sym, refl, ap, ◌∙◌, subst, ap₂, inl, inr, arith}
use Rattle.std.proofs.lemmas.List.{take_more, take_all, drop_more, drop_all, reverse-append}
use Rattle.merkle_theory.specs.Tree.{split}
use Rattle.merkle.specs.declared.way.Way.{Way}
use Rattle.merkle.specs.Ways.{AtRoot, Below, Downs, climbed}
use Rattle.merkle.proofs.Sizes.{level_below}

reverse-take_more : {D : Type 0} (ps : List D) (i : ℕ) (d : D) → i < length ps → reverse (take (i + 1) ps) ≡ get_or ps i d ∷ reverse (take i ps)
reverse-take_more ps i d l = ap reverse (take_more ps i d l) ∙ reverse-append (take i ps) (get_or ps i d ∷ [])

-- the way up through a map that respects each level
pub climbed_as : {D X Y : Type 0} (up : Bool → D → X → X) (over : Bool → D → Y → Y) (f : X → Y) → ((side : Bool) (p : D) (x : X) → f (up side p x) ≡ over side p (f x)) →
    (t : ℕ) (ps : List D) (x : X) → climbed over t ps (f x) ≡ f (climbed up t ps x)
climbed_as up over f h t [] x = refl
climbed_as up over f h t (p ∷ ps) x = ap (climbed over (t / 2) ps) (sym (h (eqb (t % 2) 1) p x)) ∙ climbed_as up over f h (t / 2) ps (up (eqb (t % 2) 1) p x)

module _ {D X : Type 0} (up : Bool → D → X → X) where
  -- what each level keeps stays
  climbed_same : (t : ℕ) (ps : List D) (x : X) → ((side : Bool) (p : D) → up side p x ≡ x) → climbed up t ps x ≡ x
  climbed_same t [] x h = refl
  climbed_same t (p ∷ ps) x h = ap (climbed up (t / 2) ps) (h (eqb (t % 2) 1) p) ∙ climbed_same (t / 2) ps x h

  -- the last turn is the first way up
  climbed_turn : (t side : ℕ) (rs : List D) (p : D) (x : X) → side < 2 → climbed up (t * 2 + side) (p ∷ rs) x ≡ climbed up t rs (up (eqb side 1) p x)
  climbed_turn t side rs p x h =
      let half : (t * 2 + side) / 2 ≡ t = omega arith in
      let bit : (t * 2 + side) % 2 ≡ side = omega arith in
      rw (half, bit)

  -- After i levels with the turns t: what f makes of so many digests is what g makes of those that are left, carried up again.
  abbrev Reached : (List D → X) → ℕ → ℕ → ℕ → (List D → X) → Type 0
  Reached f levels t i g = (ps : List D) → length ps ≡ levels → f ps ≡ climbed up t (reverse (take i ps)) (g (drop i ps))

  reached_more : (f g h : List D → X) (levels t side i : ℕ) → i < levels → side < 2 → ((p : D) (ps : List D) → g (p ∷ ps) ≡ up (eqb side 1) p (h ps)) →
      Reached f levels t i g → Reached f levels (t * 2 + side) (i + 1) h
  reached_more f g h levels t side i l bit step known [] e = absurd (omega arith)
  reached_more f g h levels t side i l bit step known (q ∷ qs) e =
      let ps = q ∷ qs in
      let p = get_or ps i q in
      let inside : i < length ps = omega arith in
      known ps e
      ∙ (ap (λ rest. climbed up t (reverse (take i ps)) (g rest)) (drop_more ps i q inside)
      ∙ (ap (climbed up t (reverse (take i ps))) (step p (drop (i + 1) ps))
      ∙ (sym (climbed_turn t side (reverse (take i ps)) p (h (drop (i + 1) ps)) bit)
      ∙ ap (λ rs. climbed up (t * 2 + side) rs (h (drop (i + 1) ps))) (sym (reverse-take_more ps i q inside)))))

  -- G says what the digests lead to, by the leaves, the place and the turns where the way is.
  module _ (G : ℕ → ℕ → ℕ → List D → X) where
    -- what f makes of so many digests, by what their rest leads to
    abbrev pub OnWay : (List D → X) → ℕ → Way → Type 0
    OnWay f levels w = Reached f levels w.turns w.levels (G w.count w.place w.turns)

    -- where no level was gone yet
    pub on_root : (f : List D → X) (levels n m : ℕ) (w : Way) → AtRoot n m w → ((ps : List D) → f ps ≡ G n m 0 ps) → OnWay f levels w
    on_root f levels n m w (en, em, el, et) is ps e = is ps ∙ sym (λ i. climbed up (et i) (reverse (take (el i) ps)) (G (en i) (em i) (et i) (drop (el i) ps)))

    pub on_down : (f : List D → X) (levels : ℕ) (w v : Way) → w.levels < levels → Below w v →
        ((p : D) (ps : List D) → w.place < split w.count → G w.count w.place w.turns (p ∷ ps) ≡ up false p (G (split w.count) w.place (w.turns * 2) ps)) →
        ((p : D) (ps : List D) → split w.count ≤ w.place →
        G w.count w.place w.turns (p ∷ ps) ≡ up true p (G (w.count - split w.count) (w.place - split w.count) (w.turns * 2 + 1) ps)) →
        OnWay f levels w → OnWay f levels v
    on_down f levels w v more below to_left to_right known = elim below [
      | inl (here, en, em, et, el) ↦
          subst (λ i. Reached f levels v.turns i h) (sym el)
          (subst (λ t. Reached f levels t (w.levels + 1) h) (omega arith)
          (reached_more f g h levels w.turns 0 w.levels more (omega arith) (λ p ps. to_left p ps here ∙ sym (λ i. up false p (G (en i) (em i) (et i) ps))) known))
      | inr (here, en, em, et, el) ↦
          subst (λ i. Reached f levels v.turns i h) (sym el)
          (subst (λ t. Reached f levels t (w.levels + 1) h) (sym et)
          (reached_more f g h levels w.turns 1 w.levels more (omega arith) (λ p ps. to_right p ps here ∙ sym (λ i. up true p (G (en i) (em i) (et i) ps))) known))
    ]
      where
        g : List D → X
        g = G w.count w.place w.turns

        h : List D → X
        h = G v.count v.place v.turns

    -- where the digests end with the way
    pub on_end : (f : List D → X) (levels : ℕ) (w : Way) → w.levels ≡ levels → OnWay f levels w → (ps : List D) → length ps ≡ levels →
        f ps ≡ climbed up w.turns (reverse ps) (G w.count w.place w.turns [])
    on_end f levels w here known ps e =
        known ps e
        ∙ ap₂ (λ before rest. climbed up w.turns (reverse before) (G w.count w.place w.turns rest)) (take_all w.levels ps (omega arith)) (drop_all w.levels ps (omega arith))

    -- where the rest leads to what stays on the way up
    pub on_fixed : (f : List D → X) (levels : ℕ) (w : Way) (x : X) → ((side : Bool) (p : D) → up side p x ≡ x) → OnWay f levels w →
        (ps : List D) → length ps ≡ levels → G w.count w.place w.turns (drop w.levels ps) ≡ x → f ps ≡ x
    on_fixed f levels w x stays known ps e here =
        known ps e ∙ (ap (climbed up w.turns (reverse (take w.levels ps))) here ∙ climbed_same w.turns (reverse (take w.levels ps)) x stays)

-- what each level keeps holds at the end
pub all_down : (P Q : Way → Type 0) (levels : ℕ) → ((w v : Way) → P w → w.levels < levels → Below w v → Q w → Q v) →
    (k : ℕ) (w v : Way) → Downs P k w v → v.levels ≤ levels → Q w → Q v
all_down P Q levels step zero w v e l known = subst Q (sym e) known
all_down P Q levels step (suc k) w v (u, before, p, below) l known =
    let level = level_below u v below in
    step u v p (omega arith) below (all_down P Q levels step k w u before (omega arith) known)

-- the digests that are left
pub none_left : {D : Type 0} (ps : List D) (i levels : ℕ) → length ps ≡ levels → i ≡ levels → drop i ps ≡ []
none_left ps i levels e here = drop_all i ps (omega arith)

pub some_left : {D : Type 0} (ps : List D) (i levels : ℕ) → length ps ≡ levels → i < levels → (p : D) × (drop i ps ≡ p ∷ drop (i + 1) ps)
some_left [] i levels e l = absurd (omega arith)
some_left (q ∷ qs) i levels e l = (get_or (q ∷ qs) i q, drop_more (q ∷ qs) i q (omega arith))

-- the last digest, where one is left
pub one_left : {D : Type 0} (ps : List D) (i : ℕ) → length ps ≡ i + 1 → (p : D) × (drop i ps ≡ p ∷ []) × (ps ≡ take i ps ++ (p ∷ []))
one_left [] i e = absurd (omega arith)
one_left (q ∷ qs) i e =
    let ps = q ∷ qs in
    let l : i < length ps = omega arith in (
      get_or ps i q,
      drop_more ps i q l ∙ ap (◌∷◌ (get_or ps i q)) (drop_all (i + 1) ps (omega arith)),
      sym (take_all (i + 1) ps (omega arith)) ∙ take_more ps i q l,
    )
