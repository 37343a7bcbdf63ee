-- What is promised comes in sight or convicts, and an honest log is never convicted. Assumes nothing.
use Rattle.std.proofs.Common.{◌≡◌, ℕ, ◌+◌, ◌<◌, ◌≤◌, true, ◌⊎◌, [], ◌∷◌, ◌++◌, sym, refl, ap, ◌∙◌, subst, inl, inr, zero-le, arith}
use mathlib.Core.List.Memᴰ
use Rattle.std.proofs.lemmas.Bool.{cases_lt}
use Rattle.model.specs.Lists.{◌∈◌, Begins}
use Rattle.model.specs.Objects.{Certificate, Sct, TreeHead}
use Rattle.model.specs.Objects.Signed.{Issued, Promised, Headed}
use Rattle.model.specs.World.{Event, World, Happened, start, apply}
use Rattle.model.specs.World.Event.{Tick, Asks, Orders, Publishes, Signs, Merges, Takes, Revokes, Accepts}
use Rattle.model.specs.Rules.{Rules, May, Steps, MayPromise, MayMerge, MayHead, MayTake, Extends}
use Rattle.model.specs.Guarantees.{Evidence, Answer, Logging}
use Rattle.model.specs.Guarantees.Answer.{Logged, NotDue, Convicts, Silent}
use Rattle.model.proofs.Past.{kept, has_happened, happened_before, arose_since_start, InOrder, which_first}
use Rattle.model.proofs.Past.InOrder.{same, in_order, in_reverse}
use Rattle.model.proofs.Growth.{arose_by_now, entries_grow, seen_grows, Held, seen_held}
use Rattle.model.proofs.Growth.Held.{nothing, signed}
use Rattle.model.proofs.Updates.{update_both}
use Rattle.model.proofs.Deciding.{there_or_not}
use Rattle.model.proofs.Issuing.{still}

-- what stands in an honest log, it promised

still_promised : (w : World) (e : Event) {l : ℕ} {c : Certificate} → MayMerge w l c → MayMerge (apply w e) l c
still_promised w e m = record { sct = m.sct; promised = happened_before w e (Signs (Promised m.sct)) m.promised; log = m.log; certificate = m.certificate }

merged_after : (r : Rules) (l : ℕ) → r.honest_log l ≡ true → (c : Certificate) (w : World) (e : Event) → May r w e → (c ∈ w.entries l → MayMerge w l c) →
    c ∈ (apply w e).entries l → MayMerge (apply w e) l c
merged_after r l honest c w Tick m before i = still_promised w Tick (before i)
merged_after r l honest c w (Asks q) m before i = still_promised w (Asks q) (before i)
merged_after r l honest c w (Orders s o) m before i = still_promised w (Orders s o) (before i)
merged_after r l honest c w (Publishes p) m before i = still_promised w (Publishes p) (before i)
merged_after r l honest c w (Signs s) m before i = still_promised w (Signs s) (before i)
merged_after r l honest c w (Merges k d) m before i = still_promised w (Merges k d)
    (update_both k (w.entries k ++ (d ∷ [])) w.entries l (λ es. c ∈ es → MayMerge w l c) merged_here (λ ne. before) i)
  where
    merged_here : l ≡ k → c ∈ w.entries k ++ (d ∷ []) → MayMerge w l c
    merged_here q j = elim (Memᴰ.append_cases (w.entries k) j) [
      | inl n ↦ before (subst (λ (x : ℕ). c ∈ w.entries x) (sym q) n)
      | inr n ↦ let may : MayMerge w k d = m (ap r.honest_log (sym q) ∙ honest) in
          record { sct = may.sct; promised = may.promised; log = may.log ∙ sym q; certificate = may.certificate ∙ sym (Memᴰ.eq_of_singleton n) }
    ]
merged_after r l honest c w (Takes n h) m before i = still_promised w (Takes n h) (before i)
merged_after r l honest c w (Revokes g) m before i = still_promised w (Revokes g) (before i)
merged_after r l honest c w (Accepts x) m before i = still_promised w (Accepts x) (before i)

entries_were_promised : {r : Rules} {k : ℕ} {w : World} → Steps r k start w → (l : ℕ) → r.honest_log l ≡ true → (c : Certificate) → c ∈ w.entries l → MayMerge w l c
entries_were_promised {r} s l honest c = kept r (λ u. c ∈ u.entries l → MayMerge u l c) (λ u e m. merged_after r l honest c u e m) s (λ i. elim i [ ])

module _ (r : Rules) (k : ℕ) (w : World) (run : Steps r k start w) where
  -- the certificate that an honest log promised was issued
  promised_was_issued : (s : Sct) → r.honest_log s.log ≡ true → Happened w (Signs (Promised s)) → Happened w (Signs (Issued s.certificate))
  promised_was_issued s honest h = let a = arose_since_start run (Signs (Promised s)) h in
      let may : MayPromise a.before s = a.may honest in still a (Signs (Issued s.certificate)) may.issued

  pub never_convicted : 0 < r.mmd → (s : Sct) (h : TreeHead) → r.honest_log s.log ≡ true → ¬ Evidence r w s h
  never_convicted positive s h honest e = cases (which_first run (Signs (Promised s)) (Signs (Headed h)) e.promised e.headed)
    where
      cases : InOrder r w (Signs (Promised s)) (Signs (Headed h)) → ⊥
      cases (same z) = let clash : ◌≡◌ {A = ℕ} 0 1 = cc in omega arith
      -- the head was signed when the promise was due, so the certificate is in it
      cases (in_order l) = let may : MayHead r l.arose.before h = l.arose.may (ap r.honest_log e.one_log ∙ honest) in
          e.missing (may.kept s l.first (sym e.one_log) (omega (arith, e.due, may.at)))
      -- or the promise was given later, and isn't due yet at the head's tick
      cases (in_reverse l) =
          let may : MayPromise l.arose.before s = l.arose.may honest in
          let a = arose_since_start l.arose.steps (Signs (Headed h)) l.first in
          let head : MayHead r a.before h = a.may (ap r.honest_log e.one_log ∙ honest) in
          let order : a.before.now ≤ l.arose.before.now = arose_by_now a in
          omega (arith, e.due, may.at, head.at)

  -- the head that a monitor has of a log from which it has one that late
  late_is_signed : (n l t : ℕ) → 0 < t → t ≤ (w.seen n l).at → Happened w (Signs (Headed (w.seen n l))) × ((w.seen n l).log ≡ l)
  late_is_signed n l t positive late = cases (seen_held run n l)
    where
      cases : Held w l (w.seen n l) → Happened w (Signs (Headed (w.seen n l))) × ((w.seen n l).log ≡ l)
      cases (nothing q) = absurd (omega (arith, ap (λ (h : TreeHead). h.at) q))
      cases (signed h q) = (h, q)

  pub in_sight : 0 < r.mmd → (s : Sct) → Happened w (Signs (Promised s)) → (n : ℕ) → s.at + r.mmd ≤ (w.seen n s.log).at →
      (s.certificate ∈ (w.seen n s.log).entries) ⊎ Evidence r w s (w.seen n s.log)
  in_sight positive s h n late = let head = late_is_signed n s.log (s.at + r.mmd) (omega arith) late in
      elim (there_or_not s.certificate (w.seen n s.log).entries) [
        | inl m ↦ inl m
        | inr m ↦ inr (record { promised = h; headed = head.0; one_log = head.1; due = late; missing = m })
      ]

  pub honest_in_sight : 0 < r.mmd → (s : Sct) → r.honest_log s.log ≡ true → Happened w (Signs (Promised s)) → (n : ℕ) → s.at + r.mmd ≤ (w.seen n s.log).at →
      s.certificate ∈ (w.seen n s.log).entries
  honest_in_sight positive s honest h n late = elim (in_sight positive s h n late) [ inl m ↦ m | inr e ↦ absurd (never_convicted positive s (w.seen n s.log) honest e) ]

  stays_in_sight : (j : ℕ) (v : World) → Steps r j w v → (n l : ℕ) → ((w.seen n l).at ≤ (v.seen n l).at) × Begins (w.seen n l).entries (v.seen n l).entries
  stays_in_sight j v steps n l = ((seen_grows steps n l).later, (seen_grows steps n l).begins)

  pub head_is_taken : (h : TreeHead) → r.honest_log h.log ≡ true → MayHead r w h → (n : ℕ) → MayTake (apply w (Signs (Headed h))) n h
  head_is_taken h honest may n = record { signed = has_happened w (Signs (Headed h)); extends = cases (w.seen n h.log) (seen_held run n h.log) }
    where
      cases : (old : TreeHead) → Held w h.log old → Extends old h
      cases old (nothing q) = subst (λ (g : TreeHead). Extends g h) (sym q) (record { later = zero-le; begins = record { more = h.entries; is = refl } })
      cases old (signed g q) =
          let a = arose_since_start run (Signs (Headed old)) g in
          let was : MayHead r a.before old = a.may (ap r.honest_log q ∙ honest) in
          let grown : Begins (a.before.entries h.log) (w.entries h.log) = entries_grow a.since h.log in
          record {
            later = omega (arith, was.at, may.at, arose_by_now a);
            begins = record { more = grown.more; is = may.entries ∙ (grown.is ∙ ap (λ es. es ++ grown.more) (ap a.before.entries (sym q) ∙ sym was.entries)) };
          }

  answered : 0 < r.mmd → (s : Sct) → Happened w (Signs (Promised s)) → (n : ℕ) → Answer r w n s
  answered positive s h n = cases (cases_lt w.now (s.at + r.mmd)) (cases_lt (w.seen n s.log).at (s.at + r.mmd))
    where
      cases : (w.now < s.at + r.mmd) ⊎ (s.at + r.mmd ≤ w.now) → ((w.seen n s.log).at < s.at + r.mmd) ⊎ (s.at + r.mmd ≤ (w.seen n s.log).at) → Answer r w n s
      cases due (inr late) = elim (in_sight positive s h n late) [ inl m ↦ Logged m | inr e ↦ Convicts e ]
      cases (inl early) (inl old) = NotDue early
      cases (inr due) (inl old) = Silent due old

  entries_were_issued : (l : ℕ) → r.honest_log l ≡ true → (c : Certificate) → c ∈ w.entries l →
      Happened w (Signs (Issued c)) × (s : Sct) × Happened w (Signs (Promised s)) × (s.log ≡ l) × (s.certificate ≡ c)
  entries_were_issued l honest c i = let m = entries_were_promised run l honest c i in (
    subst (λ (d : Certificate). Happened w (Signs (Issued d))) m.certificate (promised_was_issued m.sct (ap r.honest_log m.log ∙ honest) m.promised),
    m.sct,
    m.promised,
    m.log,
    m.certificate,
  )

  pub logging : 0 < r.mmd → Logging r w
  logging positive = record {
    in_sight = in_sight positive;
    honest_in_sight = honest_in_sight positive;
    stays_in_sight = stays_in_sight;
    head_is_taken = head_is_taken;
    answered = answered positive;
    never_convicted = never_convicted positive;
    entries_were_issued = entries_were_issued;
  }
