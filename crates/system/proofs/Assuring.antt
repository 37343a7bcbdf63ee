-- What the model guarantees, in the parties' own terms. Assumes nothing.
use Rattle.std.proofs.Common.{◌≡◌, ℕ, ◌+◌, ◌≤◌, Bool, true, false, cond, ◌⊎◌, List, [], ◌∷◌, ◌++◌, length, Some, None, Option, sym, refl, ap, ◌∙◌, subst, inl, inr, true≢false, arith}
use mathlib.Core.List.Memᴰ
use lib.ListN.{length-map}
use Rattle.std.proofs.lemmas.Bool.{eqb-true, and_parts, leb-false}
use Rattle.model.specs.Lists.{◌∈◌}
use Rattle.merkle_theory.specs.Bytes.{texts}
use Rattle.merkle_theory.specs.Digests.{Long}
use Rattle.merkle_theory.proofs.Digests.{bytes_lawful}
use Rattle.merkle_theory.proofs.RootTells.{collision_within}
use Rattle.merkle_theory.proofs.Told.{root-told_of_rows}
use Rattle.std.specs.List.{AllByRecursion}
use Rattle.model.specs.Objects.{Certificate, Wish, Order, TreeHead}
use Rattle.model.specs.World.Sender.{Owner, Somebody}
use Rattle.model.specs.World.Event.{Asks, Orders}
use Rattle.model.specs.Rules.{Asked, wish_of}
use Rattle.model.specs.Rules.Asked.{by_order, by_message}
use Rattle.model.specs.Guarantees.{Guarantees}
use Rattle.model.proofs.Safe.{every_world_is_safe}
use Rattle.wire_theory.specs.Bytes.{Bytes}
use Rattle.wire_theory.specs.Messages.{SignedSct, SignedHead}
use Rattle.parties.specs.Coding.{same_bytes, has, leaf_of, leaves_of, root_texts_of}
use Rattle.parties.specs.Evidence.Verdict.{Convicts}
use Rattle.parties.specs.Monitor.{Seen, tick_of, with_name}
use Rattle.parties.specs.RelyingParty.{Kept}
use Rattle.parties.proofs.Compared.{same_true, has_false, same_from}
use Rattle.parties.proofs.Judging.{judges_right}
use Rattle.parties.specs.Judging.{Tells}
use Rattle.parties.specs.Judging.Tells.{convicts}
use Rattle.system.specs.Setup.{Setup, Sound, Collides, rules_of}
use Rattle.system.specs.Runs.{Place, State}
use Rattle.system.specs.Runs.Sealed.{SealedSct, SealedHead}
use Rattle.system.specs.Stands.{sct_of, head_of, acceptance_of, order_of, SeenStands, SctKept, HeadKept, Reaches}
use Rattle.system.specs.Assured.{OfEveryRun, AcceptedWasIssued, IssuedWasAskedFor, OneCertificate, Sees, Evident, AcceptedIsSeen, HonestIsSeen, RevokedIsNotAccepted, NeverConvicted}
use Rattle.system.proofs.Digests.{stands_there}
use Rattle.system.proofs.Monitors.{leaves_long}
use Rattle.system.proofs.Refining.{refines}

-- a run that reaches a world has what the world has
pub of_world : {P : Setup → State → Type 0} → ((S : Setup) → Sound S → (s : State) → Reaches S s → P S s) → OfEveryRun P
of_world f S sound s run = elim (refines S sound s run) [ inl r ↦ inl (f S sound s r) | inr z ↦ inr z ]

pub safe : (S : Setup) → Sound S → (s : State) → (r : Reaches S s) → Guarantees (rules_of S) r.world
safe S sound s r = every_world_is_safe (rules_of S) sound.delayed r.events r.world r.run

pub accepted_was_issued : OfEveryRun AcceptedWasIssued
accepted_was_issued = of_world (λ S sound s r k x m honest.
    r.stands.heard _ ((safe S sound s r).issuing.accepted_was_issued (acceptance_of x) (r.stands.kept k x m).accepted) honest)

pub one_certificate_to_a_serial : OfEveryRun OneCertificate
one_certificate_to_a_serial = of_world (λ S sound s r c d honest m n. (safe S sound s r).issuing.one_certificate c d honest (r.stands.signed _ m) (r.stands.signed _ n))

-- the owner asked, and published the response to the challenge that stands at the authority
pub issued_was_asked_for : OfEveryRun IssuedWasAskedFor
issued_was_asked_for = of_world asked
  where
    asked : (S : Setup) → Sound S → (s : State) → Reaches S s → IssuedWasAskedFor S s
    asked S sound s r c honest m =
        let w = r.world in
        let issued = r.stands.signed _ m in
        let a = (safe S sound s r).issuing.issued_was_asked_for c honest issued in
        let own = r.stands.authorities c.issuer honest in
        let (x, drawn, was) = own.issued c refl issued in
        let same : order_of c.issuer c.serial x ≡ a.order = (safe S sound s r).issuing.one_order a.sender Somebody a.order (order_of c.issuer c.serial x)
        (ap S.honest_authority a.fulfils.authority ∙ honest) a.ordered (own.ordered c.serial x drawn).0 (sym a.fulfils.authority) (sym a.fulfils.serial) in
        record {
          account = x;
          drawn = drawn;
          name = ap (λ (o : Order). o.name) same ∙ a.fulfils.name;
          key = ap (λ (o : Order). o.key) same ∙ a.fulfils.key;
          wanted = wish a.asked;
          published = subst (λ (f : Place). f ∈ s.published)
              (λ t. record { name = a.fulfils.name t; found = S.coding.hash (S.coding.response_text (a.fulfils.serial t) (ap (λ (o : Order). o.nonce) (sym same) t) (a.fulfils.key t)) })
              (r.stands.heard _ a.published);
        }
      where
        wish : Asked r.world (wish_of c) → wish_of c ∈ s.wanted
        wish (by_order o h q) = subst (λ (x : Wish). x ∈ s.wanted) q (r.stands.heard (Orders Owner o) h)
        wish (by_message h) = r.stands.heard (Asks (wish_of c)) h

pub revoked_is_not_accepted : OfEveryRun RevokedIsNotAccepted
revoked_is_not_accepted = of_world (λ S sound s r k x m honest y t drawn was.
    (safe S sound s r).revoking.not_accepted (acceptance_of x) (r.stands.kept k x m).accepted honest _
    ((r.stands.authorities x.certificate.issuer honest).happened x.certificate.serial y t drawn was) refl refl)

-- In sight

leaf_there : (S : Setup) (c : Certificate) (cs : List Certificate) → c ∈ cs → leaf_of S.coding c ∈ leaves_of S.coding cs
leaf_there S c [] m = elim m [ ]
leaf_there S c (d ∷ cs) (Memᴰ.head q) = Memᴰ.head (ap (leaf_of S.coding) q)
leaf_there S c (d ∷ cs) (Memᴰ.tail n) = Memᴰ.tail (leaf_there S c cs n)

named_there : (name : Bytes) (c : Certificate) (cs : List Certificate) → c.name ≡ name → c ∈ cs → c ∈ with_name name cs
unfolding with_name
named_there name c [] q m = elim m [ ]
named_there name c (d ∷ cs) q m = cases (same_bytes d.name name) refl (Memᴰ.cases_cons m) (named_there name c cs q)
  where
    cases : (b : Bool) → same_bytes d.name name ≡ b → (c ≡ d) ⊎ (c ∈ cs) → (c ∈ cs → c ∈ with_name name cs) → c ∈ cond b (d ∷ with_name name cs) (with_name name cs)
    cases true e (inl z) rest = Memᴰ.head z
    cases true e (inr n) rest = Memᴰ.tail (rest n)
    cases false e (inl z) rest = absurd (true≢false (sym (same_from _ _ (ap (λ (x : Certificate). x.name) (sym z) ∙ q)) ∙ e))
    cases false e (inr n) rest = rest n

sees : (S : Setup) {ts : List Bytes} {l : ℕ} {name : Bytes} {x : Seen} {h : TreeHead} (c : Certificate) → SeenStands S ts l name x h → c ∈ h.entries → Sees S name x c
sees S {name = name} {h = h} c st m = record {
  digest = subst (λ (ds : List Bytes). leaf_of S.coding c ∈ ds) (sym st.digests) (leaf_there S c h.entries m);
  told = λ q. subst (λ (cs : List Certificate). c ∈ cs) (sym st.found) (named_there name c h.entries q m);
}

-- both promises of an acceptance
kept_sct : (S : Setup) (s : State) (r : Reaches S s) (k : ℕ) (x : Kept) → x ∈ (s.relying k).kept → (p : SignedSct) → p ∈ x.first ∷ (x.second ∷ []) →
    SctKept S x.certificate p × (sct_of p x.certificate ∈ (acceptance_of x).first ∷ ((acceptance_of x).second ∷ []))
kept_sct S s r k x m p i = elim (Memᴰ.cases_cons i) [
  | inl q ↦ (subst (λ (y : SignedSct). SctKept S x.certificate y) (sym q) (r.stands.kept k x m).first, Memᴰ.head (ap (λ y. sct_of y x.certificate) q))
  | inr n ↦ elim (Memᴰ.cases_cons n) [
    | inl q ↦ (subst (λ (y : SignedSct). SctKept S x.certificate y) (sym q) (r.stands.kept k x m).second, Memᴰ.tail (Memᴰ.head (ap (λ y. sct_of y x.certificate) q)))
    | inr z ↦ elim z [ ]
  ]
]

pub honest_is_seen : OfEveryRun HonestIsSeen
honest_is_seen = of_world (λ S sound s r k x m p i honest n late.
    let st = r.stands.seen n p.log in
    let g = safe S sound s r in
    let (promised, of-it, by-then) = g.accepting.promised (acceptance_of x) (r.stands.kept k x m).accepted (sct_of p x.certificate) (kept_sct S s r k x m p i).1 in
    sees S x.certificate st (g.logging.honest_in_sight (sct_of p x.certificate) honest promised n (subst (λ (t : ℕ). p.at + S.settings.mmd ≤ t) (sym st.at) late)))

-- a promise that is due and a digest that isn't there convict
evident : (S : Setup) (p : SignedSct) (c : Certificate) (x : Seen) (g : SignedHead) → SctKept S c p → x.head ≡ Some g → HeadKept S p.log x g → p.at + S.settings.mmd ≤ g.at →
    has p.digest x.digests ≡ false → Evident S p x
evident S p c x g kp e hk late missing = let (counts, roots) = and_parts _ _ hk.gives in record {
  head = g;
  kept = e;
  convicts = (judges_right S.coding S.settings p g x.digests Convicts).1 (convicts
      (kp.known, ap S.coding.knows_log hk.log ∙ hk.known) (same_true _ _ kp.right, same_true _ _ hk.right) (sym hk.log) late
      (has_false _ _ missing) (eqb-true _ _ counts, same_true _ _ roots) (leb-false _ _ kp.small, leb-false _ _ hk.small));
}

pub accepted_is_seen : AcceptedIsSeen
accepted_is_seen S sound s run k x m p i n late = elim (refines S sound s run) [ inl r ↦ by_head r ((s.monitors n).logs p.log).head refl | inr z ↦ inr (inr z) ]
  where
    by_digest : (r : Reaches S s) (g : SignedHead) → ((s.monitors n).logs p.log).head ≡ Some g → (b : Bool) → has p.digest ((s.monitors n).logs p.log).digests ≡ b →
        Sees S (s.monitors n).name ((s.monitors n).logs p.log) x.certificate ⊎ (Evident S p ((s.monitors n).logs p.log) ⊎ Collides S s.hashed)
    by_digest r g e true h =
        let st = r.stands.seen n p.log in
        let kp = (kept_sct S s r k x m p i).0 in
        elim (stands_there S sound x.certificate (r.world.seen n p.log).entries (r.stands.kept k x m).texted st.texted
        (ap (λ (d : Bytes). has d (leaves_of S.coding (r.world.seen n p.log).entries)) (sym kp.digest) ∙ (ap (has p.digest) (sym st.digests) ∙ h)))
        [ inl y ↦ inl (sees S x.certificate st y) | inr z ↦ inr (inr z) ]
    by_digest r g e false h = inr (inl (evident S p x.certificate _ g (kept_sct S s r k x m p i).0 e ((r.stands.seen n p.log).kept g e)
        (subst (λ (o : Option SignedHead). p.at + S.settings.mmd ≤ tick_of o) e late) h))

    by_head : (r : Reaches S s) (o : Option SignedHead) → ((s.monitors n).logs p.log).head ≡ o →
        Sees S (s.monitors n).name ((s.monitors n).logs p.log) x.certificate ⊎ (Evident S p ((s.monitors n).logs p.log) ⊎ Collides S s.hashed)
    by_head r None e = absurd (omega (arith, sound.delayed, subst (λ (o : Option SignedHead). p.at + S.settings.mmd ≤ tick_of o) e late))
    by_head r (Some g) e = by_digest r g e (has p.digest ((s.monitors n).logs p.log).digests) refl

-- Never convicted

all_long : (ds : List Bytes) → ((d : Bytes) → d ∈ ds → length d ≡ 32) → AllByRecursion Long ds
all_long [] h = tt
all_long (d ∷ ds) h = (h d (Memᴰ.head refl), all_long ds (λ x m. h x (Memᴰ.tail m)))

pub never_convicted : NeverConvicted
never_convicted S sound s run p h ds long honest law-p law-h verdict = by_parts ((judges_right S.coding S.settings p h ds Convicts).0 verdict)
  where
    more : (t : Bytes) → t ∈ s.hashed → t ∈ root_texts_of S.coding ds ++ s.hashed
    more t m = Memᴰ.append_right (root_texts_of S.coding ds) m

    by_parts : Tells S.coding S.settings p h ds Convicts → Collides S (root_texts_of S.coding ds ++ s.hashed)
    by_parts (convicts known (right-p, right-h) one late missing (counts, roots) range) = elim (refines S sound s run) [ inl r ↦ by_world r | inr z ↦ collision_within more z ]
      where
        by_world : Reaches S s → Collides S (root_texts_of S.coding ds ++ s.hashed)
        by_world r =
            let q = r.stands.signed (SealedSct p) (law-p honest (same_from _ _ right-p)) in
            let g = r.stands.signed (SealedHead h) (law-h (ap S.honest_log (sym one) ∙ honest) (same_from _ _ right-h)) in
            let leaves = leaves_of S.coding g.entries in
            let rows = root-told_of_rows (texts S.coding.hash) Long (bytes_lawful S.coding.hash sound.long) ds leaves (all_long ds long) (leaves_long S sound g.entries)
            (counts ∙ (sym g.count ∙ sym (length-map g.entries _))) (roots ∙ sym g.root) in
            elim rows [
              | inl e ↦ absurd ((safe S sound s r).logging.never_convicted (sct_of p q.certificate) (head_of h g.entries) honest (record {
                promised = q.promised;
                headed = g.headed;
                one_log = sym one;
                due = late;
                missing = λ m. missing (subst (λ (d : Bytes). d ∈ ds) q.digest (subst (λ (xs : List Bytes). leaf_of S.coding q.certificate ∈ xs) (sym e) (leaf_there S q.certificate g.entries m)));
              }))
              | inr z ↦ collision_within (λ t m. elim (Memᴰ.append_cases (root_texts_of S.coding ds) m) [ inl y ↦ Memᴰ.append_left s.hashed y | inr y ↦ more t (g.texts t y) ]) z
            ]
