-- A monitor wakes, and takes heads. Assumes nothing.
use Rattle.std.proofs.Common.{◌≡◌, ℕ, suc, ◌≤◌, Bool, true, false, cond, eqb, ltb, ◌⊎◌, List, [], ◌∷◌, ◌++◌, map, length, Some, None, Option, sym, refl, ap, ◌∙◌, subst, inl, inr, le_refl}
use mathlib.Core.List.Memᴰ
use mathlib.Core.List.{map-append}
use lib.ListN.{length-map}
use Rattle.std.specs.List.{AllByRecursion}
use Rattle.std.proofs.lemmas.Bool.{cond_both, cond-true, cond-false, eq-eqb, ne_eqb, eqb-true, ltb-false, not-false, and_parts, cases_Bool}
use Rattle.merkle_theory.specs.Bytes.{texts}
use Rattle.merkle_theory.specs.Digests.{Long}
use Rattle.merkle_theory.specs.Texts.{row_texts}
use Rattle.merkle_theory.proofs.Digests.{bytes_lawful}
use Rattle.merkle_theory.proofs.RootTells.{collision_within}
use Rattle.merkle_theory.proofs.Told.{root-told_of_rows}
use Rattle.model.specs.Lists.{◌∈◌}
use Rattle.model.specs.Objects.{Certificate, TreeHead}
use Rattle.model.specs.Objects.Signed.{Headed}
use Rattle.model.specs.World.{World, start, apply, update}
use Rattle.model.specs.World.Event.{Signs, Takes}
use Rattle.model.specs.Rules.{Steps, Extends}
use Rattle.model.specs.Rules.Steps.{onward}
use Rattle.wire_theory.specs.Bytes.{Bytes}
use Rattle.wire_theory.specs.Messages.{MonitorAnswer, SignedSct, SignedHead}
use Rattle.parties.specs.Coding.{same_bytes, leaf_text, leaf_of, leaves_of, root_of, root_texts_of, right_head}
use Rattle.parties.specs.Steps.{first_fault}
use Rattle.parties.specs.Evidence.{gives_root}
use Rattle.parties.specs.Monitor.{Seen, MonitorView, Fetched, digests_with, faults_of, takes, tick_of, with_name, with_seen, looked_by, on_fetched, answer_by, lastly, asking, asked_for, answering, faults_of_brought, brought_by}
use Rattle.system.specs.Setup.{Setup, Sound, Collides, rules_of}
use Rattle.system.specs.Runs.{State, with_monitor, hashing, hashed_for, taking_texts, unless_fault, asking_texts, bringing_texts, Lawful, step}
use Rattle.system.specs.Runs.Sealed.{SealedHead}
use Rattle.system.specs.Runs.Move.{Take, Bring, WakeMonitor}
use Rattle.system.specs.Stands.{head_of, Within, AllTexted, HeadStands, HeadKept, SeenStands, Stands, Reaches}
use Rattle.system.proofs.Adding.{texted_more, seen_more}
use Rattle.system.proofs.Framing.{also, among_more, parts_more, quiet_log, quiet_issued, quiet_revoked, heard_more, heard_with, unchanged, takes_log, takes_authority}
use Rattle.system.proofs.Inserting.{not_both, have_headed}
use Rattle.system.proofs.Logs.{update_one, update_two}
use Rattle.system.proofs.Digests.{same_bytes_lem, one_list}
use Rattle.system.proofs.Faults.{same_some, no_first, no_more}

-- a monitor's view alone changed, for the same world
module _ (S : Setup) (s : State) (n : ℕ) (u : MonitorView) {w : World} (st : Stands S (with_monitor n u s) w) where
  pub other_monitor : (m l : ℕ) → ¬ (m ≡ n) → SeenStands S s.hashed l (s.monitors m).name ((s.monitors m).logs l) (w.seen m l)
  other_monitor m l ne = subst (λ (x : MonitorView). SeenStands S s.hashed l x.name (x.logs l) (w.seen m l)) (cond-false (eqb m n) u (s.monitors m) (ne_eqb m n ne)) (st.seen m l)

  pub own_monitor : (l : ℕ) → SeenStands S s.hashed l u.name (u.logs l) (w.seen n l)
  own_monitor l = subst (λ (x : MonitorView). SeenStands S s.hashed l x.name (x.logs l) (w.seen n l)) (cond-true (eqb n n) u (s.monitors n) (eq-eqb n n refl)) (st.seen n l)

  pub with_monitor_lem : (v : MonitorView) → ((l : ℕ) → SeenStands S s.hashed l v.name (v.logs l) (w.seen n l)) → Stands S (with_monitor n v s) w
  with_monitor_lem v new = record {
    now = st.now;
    signed = st.signed;
    wanted = st.wanted;
    published = st.published;
    logs = st.logs;
    authorities = st.authorities;
    seen = λ m l. update_one n v s.monitors m (λ x. SeenStands S s.hashed l x.name (x.logs l) (w.seen m l))
        (λ q. subst (λ (i : ℕ). SeenStands S s.hashed l v.name (v.logs l) (w.seen i l)) (sym q) (new l)) (λ ne. other_monitor m l ne);
    lists = st.lists;
    kept = st.kept;
    heard = λ e m. heard_more S (unchanged (with_monitor n u s) (with_monitor n v s) refl refl refl) e (st.heard e m);
  }

pub as_with_monitor : (S : Setup) (s : State) (n : ℕ) {w : World} → Stands S s w → Stands S (with_monitor n (s.monitors n) s) w
as_with_monitor S s n {w} st = record {
  now = st.now;
  signed = st.signed;
  wanted = st.wanted;
  published = st.published;
  logs = st.logs;
  authorities = st.authorities;
  seen = λ m l. update_one n (s.monitors n) s.monitors m (λ x. SeenStands S s.hashed l x.name (x.logs l) (w.seen m l))
      (λ q. subst (λ (i : ℕ). SeenStands S s.hashed l (s.monitors i).name ((s.monitors i).logs l) (w.seen m l)) q (st.seen m l)) (λ ne. st.seen m l);
  lists = st.lists;
  kept = st.kept;
  heard = λ e m. heard_more S (unchanged s (with_monitor n (s.monitors n) s) refl refl refl) e (st.heard e m);
}

pub monitor_wakes : (S : Setup) (s : State) (n : ℕ) {w : World} {k : ℕ} → Steps (rules_of S) k start w → Stands S s w → Reaches S (step S s (WakeMonitor n))
monitor_wakes S s n {w} {k} run st = let st' = as_with_monitor S s n st in cond_both (ltb s.clock (s.monitors n).now) (s.monitors n) _ (λ v. Reaches S (with_monitor n v s))
    (λ e. record { events = k; world = w; run = run; stands = st' })
    (λ e. record { events = k; world = w; run = run; stands = with_monitor_lem S s n (s.monitors n) st' _ (own_monitor S s n (s.monitors n) st') })

-- the certificates with a name, of two lists
with_name_append : (name : Bytes) (cs ds : List Certificate) → with_name name (cs ++ ds) ≡ with_name name cs ++ with_name name ds
unfolding with_name
with_name_append name [] ds = refl
with_name_append name (c ∷ cs) ds = cond_case (same_bytes c.name name) (with_name_append name cs ds)
  where
    cond_case : (b : Bool) → with_name name (cs ++ ds) ≡ with_name name cs ++ with_name name ds →
        cond b (c ∷ with_name name (cs ++ ds)) (with_name name (cs ++ ds)) ≡ cond b (c ∷ with_name name cs) (with_name name cs) ++ with_name name ds
    cond_case true e = ap (λ xs. c ∷ xs) e
    cond_case false e = e

-- leaf digests are long
pub leaves_long : (S : Setup) → Sound S → (cs : List Certificate) → AllByRecursion Long (leaves_of S.coding cs)
leaves_long S sound [] = tt
leaves_long S sound (c ∷ cs) = (sound.long (leaf_text S.coding c), leaves_long S sound cs)

-- the texts of new certificates are hashed
new_text : (S : Setup) (cs : List Certificate) (c : Certificate) → c ∈ cs → leaf_text S.coding c ∈ map (leaf_text S.coding) cs
new_text S [] c m = elim m [ ]
new_text S (d ∷ cs) c (Memᴰ.head q) = Memᴰ.head (ap (leaf_text S.coding) q)
new_text S (d ∷ cs) c (Memᴰ.tail n) = Memᴰ.tail (new_text S cs c n)

module _ (S : Setup) (sound : Sound S) (s : State) (n : ℕ) (v : MonitorView) (f : Fetched) (law : Lawful S s (SealedHead f.head)) (readable : (c : Certificate) → c ∈ f.new → S.readable c ≡ true) where
  abbrev l : ℕ
  l = f.head.log

  abbrev x : Seen
  x = v.logs l

  abbrev us : List Bytes
  us = taking_texts S x f ++ s.hashed

  more : Within S s.hashed us
  more t m = Memᴰ.append_right (taking_texts S x f) m

  new_texted : AllTexted S us f.new
  new_texted c m = record { readable = readable c m; text = Memᴰ.append_left s.hashed (Memᴰ.append_left (root_texts_of S.coding (digests_with S.coding x f.new)) (new_text S f.new c m)) }

  module _ {w : World} {k : ℕ} (run : Steps (rules_of S) k start w) (st : Stands S (with_monitor n v s) w) where
    abbrev old : TreeHead
    old = w.seen n l

    abbrev all : List Certificate
    all = old.entries ++ f.new

    abbrev new : TreeHead
    new = head_of f.head all

    sx : SeenStands S s.hashed l v.name x old
    sx = own_monitor S s n v st l

    all_texted : AllTexted S us all
    all_texted c m = elim (Memᴰ.append_cases old.entries m) [ inl i ↦ texted_more S more (sx.texted c i) | inr i ↦ new_texted c i ]

    -- its row of digests is that of all its certificates
    row : digests_with S.coding x f.new ≡ leaves_of S.coding all
    row = ap (λ ds. ds ++ leaves_of S.coding f.new) sx.digests ∙ sym (map-append (leaf_of S.coding) old.entries f.new)

    -- an honest log's head with this root is of just these entries, or two texts collide
    same_entries : gives_root S.coding (digests_with S.coding x f.new) f.head ≡ true → HeadStands S s.hashed w.past f.head → (Signs (Headed new) ∈ w.past) ⊎ Collides S us
    same_entries gives hs = elim rows [ inl q ↦ lists q | inr z ↦ inr z ]
      where
        both : (eqb (length (digests_with S.coding x f.new)) f.head.count ≡ true) × (same_bytes (root_of S.coding (digests_with S.coding x f.new)) f.head.root ≡ true)
        both = and_parts _ _ gives

        lengths : length (leaves_of S.coding hs.entries) ≡ length (digests_with S.coding x f.new)
        lengths = length-map hs.entries _ ∙ (hs.count ∙ sym (eqb-true _ _ both.0))

        roots : root_of S.coding (leaves_of S.coding hs.entries) ≡ root_of S.coding (digests_with S.coding x f.new)
        roots = hs.root ∙ sym (same_bytes_lem _ _ both.1)

        within : (t : Bytes) → t ∈ row_texts (texts S.coding.hash) (leaves_of S.coding hs.entries) ++ row_texts (texts S.coding.hash) (digests_with S.coding x f.new) → t ∈ us
        within t m = elim (Memᴰ.append_cases (row_texts (texts S.coding.hash) (leaves_of S.coding hs.entries)) m)
            [ inl i ↦ more t (hs.texts t i) | inr i ↦ Memᴰ.append_left s.hashed (Memᴰ.append_right (map (leaf_text S.coding) f.new) i) ]

        rows : (leaves_of S.coding hs.entries ≡ digests_with S.coding x f.new) ⊎ Collides S us
        rows = elim (root-told_of_rows (texts S.coding.hash) Long (bytes_lawful S.coding.hash sound.long) (leaves_of S.coding hs.entries) (digests_with S.coding x f.new)
            (leaves_long S sound hs.entries) (subst (AllByRecursion Long) (sym row) (leaves_long S sound all)) lengths roots)
            [ inl q ↦ inl q | inr z ↦ inr (collision_within within z) ]

        lists : leaves_of S.coding hs.entries ≡ digests_with S.coding x f.new → (Signs (Headed new) ∈ w.past) ⊎ Collides S us
        lists q = elim (one_list S sound hs.entries all (λ c m. texted_more S more (hs.texted c m)) all_texted (q ∙ row))
            [ inl z ↦ inl (subst (λ (cs : List Certificate). Signs (Headed (head_of f.head cs)) ∈ w.past) z hs.headed) | inr z ↦ inr z ]

  -- taken: the world's monitor takes the head of all these entries
  module _ {w : World} {k : ℕ} (run : Steps (rules_of S) k start w) (st : Stands S (with_monitor n v s) w) (signed : Signs (Headed (new run st)) ∈ w.past) (not_older : tick_of x.head ≤ f.head.at)
      (checked : HeadKept S l (takes S.coding v.name x f) f.head) where
    abbrev taken : Seen
    taken = takes S.coding v.name x f

    abbrev after : State
    after = hashing (taking_texts S x f) (with_monitor n (with_seen l taken v) s)

    taken_stands : SeenStands S us l v.name taken (new run st)
    taken_stands = record {
      kept = λ g e. subst (λ (h : SignedHead). HeadKept S l taken h) (same_some e) checked;
      at = refl;
      digests = row run st;
      texted = all_texted run st;
      found = ap (λ cs. cs ++ with_name v.name f.new) (sx run st).found ∙ sym (with_name_append v.name (old run st).entries f.new);
    }

    extends : Extends (w.seen n l) (new run st)
    extends = record { later = subst (λ (t : ℕ). t ≤ f.head.at) (sym (sx run st).at) not_older; begins = record { more = f.new; is = refl } }

    head_taken : Reaches S after
    head_taken = let e = Takes n (new run st) in let p = parts_more S st {us = us} {fs = e ∷ w.past} more also (le_refl _) in record {
      events = suc k;
      world = apply w e;
      run = onward run e (record { signed = signed; extends = extends });
      stands = record {
        now = st.now;
        signed = p.signed;
        wanted = p.wanted;
        published = p.published;
        logs = λ j h. p.logs j h (quiet_log S st (takes_log n (new run st) j));
        authorities = λ a h. p.authorities a h (quiet_issued S st (takes_authority n (new run st) a)) (quiet_revoked S st (takes_authority n (new run st) a));
        seen = λ m j. update_two n (with_seen l taken v) s.monitors (update l (new run st) (w.seen n)) w.seen m (λ y g. SeenStands S us j y.name (y.logs j) (g j))
            (λ q. update_two l taken v.logs (new run st) (w.seen n) j (λ y g. SeenStands S us j v.name y g) (λ z. subst (λ (i : ℕ). SeenStands S us i v.name taken (new run st)) (sym z) taken_stands) (λ z. seen_more S more (own_monitor S s n v st j)))
            (λ ne. seen_more S more (other_monitor S s n v st m j ne));
        lists = p.lists;
        kept = p.kept;
        heard = heard_with S after (unchanged (with_monitor n v s) after refl refl refl) st e tt;
      };
    }

  -- what came is right: the head is there, or is put there, and is taken
  module _ {w : World} {k : ℕ} (run : Steps (rules_of S) k start w) (st : Stands S (with_monitor n v s) w) where
    by_log : right_head S.coding f.head ≡ true → tick_of x.head ≤ f.head.at → gives_root S.coding (digests_with S.coding x f.new) f.head ≡ true →
        HeadKept S l (takes S.coding v.name x f) f.head → (S.honest_log l ≡ true) ⊎ (S.honest_log l ≡ false) →
        Reaches S (hashing (taking_texts S x f) (with_monitor n (with_seen l (takes S.coding v.name x f) v) s)) ⊎ Collides S us
    by_log right not_older gives checked (inl honest) = elim (same_entries run st gives (st.signed (SealedHead f.head) (law honest right))) [ inl m ↦ inl (head_taken run st m not_older checked) | inr z ↦ inr z ]
    by_log right not_older gives checked (inr dishonest) = let has = have_headed S run st (new run st) (λ h. not_both h dishonest) in
        inl (head_taken has.further.run has.further.stands
        (subst (λ (g : TreeHead). Signs (Headed (head_of f.head (g.entries ++ f.new))) ∈ has.further.world.past) (sym (has.further.seen n l)) has.happened) not_older checked)

    goes : first_fault (faults_of S.coding x f) ≡ None → Reaches S (hashing (taking_texts S x f) (with_monitor n (with_seen l (takes S.coding v.name x f) v) s)) ⊎ Collides S us
    goes e =
        let known : S.coding.knows_log l ≡ true = not-false _ (no_first _ _ e) in
        let after-known = no_more _ _ e in
        let after-seal = no_more _ _ after-known in
        let right : right_head S.coding f.head ≡ true = not-false _ (no_first _ _ after-known) in
        let not_older : tick_of x.head ≤ f.head.at = ltb-false _ _ (no_first _ _ after-seal) in
        let from-root = no_more _ _ (no_more _ _ (no_more _ _ after-seal)) in
        let gives : gives_root S.coding (digests_with S.coding x f.new) f.head ≡ true = not-false _ (no_first _ _ from-root) in
        by_log right not_older gives (record { log = refl; known = known; right = right; gives = gives; small = no_first _ _ (no_more _ _ from-root) }) (cases_Bool (S.honest_log l))

    looks : Reaches S (hashing (unless_fault S (on_fetched S.coding f v).fault (taking_texts S x f)) (with_monitor n (on_fetched S.coding f v).view s)) ⊎
        Collides S (unless_fault S (on_fetched S.coding f v).fault (taking_texts S x f) ++ s.hashed)
    looks = cases (first_fault (faults_of S.coding x f)) refl
      where
        cases : (o : Option ℕ) → first_fault (faults_of S.coding x f) ≡ o →
            Reaches S (hashing (unless_fault S (looked_by S.coding f v o).fault (taking_texts S x f)) (with_monitor n (looked_by S.coding f v o).view s)) ⊎
            Collides S (unless_fault S (looked_by S.coding f v o).fault (taking_texts S x f) ++ s.hashed)
        cases (Some i) e = inl (record { events = k; world = w; run = run; stands = st })
        cases None e = goes e

pub monitor_takes : (S : Setup) → Sound S → (s : State) (n : ℕ) (f : Fetched) → Lawful S s (SealedHead f.head) → ((c : Certificate) → c ∈ f.new → S.readable c ≡ true) →
    {w : World} {k : ℕ} → Steps (rules_of S) k start w → Stands S s w → Reaches S (step S s (Take n f)) ⊎ Collides S (step S s (Take n f)).hashed
monitor_takes S sound s n f law readable run st = looks S sound s n (s.monitors n) f law readable run (as_with_monitor S s n st)

-- A promise that is brought

-- more texts take nothing away
pub with_more : (S : Setup) (s : State) (ts : List Bytes) → Reaches S s ⊎ Collides S s.hashed → Reaches S (hashing ts s) ⊎ Collides S (ts ++ s.hashed)
with_more S s ts (inr z) = inr (collision_within (λ t m. Memᴰ.append_right ts m) z)
with_more S s ts (inl r) = let st = r.stands in let p = parts_more S st {us = ts ++ s.hashed} {fs = r.world.past} (among_more ts) (λ e m. m) (le_refl _) in inl (record {
  events = r.events;
  world = r.world;
  run = r.run;
  stands = record {
    now = st.now;
    signed = p.signed;
    wanted = p.wanted;
    published = p.published;
    logs = λ l h. p.logs l h (λ x q m. m);
    authorities = λ a h. p.authorities a h (λ c q m. m) (λ g q m. m);
    seen = p.seen;
    lists = p.lists;
    kept = p.kept;
    heard = λ e m. heard_more S (unchanged s (hashing ts s) refl refl refl) e (st.heard e m);
  };
})

module _ (S : Setup) (sound : Sound S) (s : State) (n : ℕ) (c : Certificate) (p : SignedSct) (came : Option Fetched)
    (lawful : (f : Fetched) → came ≡ Some f → Lawful S s (SealedHead f.head) × ((d : Certificate) → d ∈ f.new → S.readable d ≡ true))
    {w : World} {k : ℕ} (run : Steps (rules_of S) k start w) (st : Stands S s w) where
  abbrev it : MonitorView
  it = s.monitors n

  abbrev asked : MonitorView
  asked = asking p.log it

  -- that it asked changes nothing of what it has seen
  asked_stands : Stands S (with_monitor n asked s) w
  asked_stands = let st' = as_with_monitor S s n st in with_monitor_lem S s n it st' asked (λ l. update_one p.log _ it.logs l (λ y. SeenStands S s.hashed l it.name y (w.seen n l))
      (λ q. subst (λ (i : ℕ). SeenStands S s.hashed l it.name (record { head = (it.logs i).head; digests = (it.logs i).digests; found = (it.logs i).found; asked = Some it.now }) (w.seen n l)) q
      (same_seen (own_monitor S s n it st' l))) (λ ne. own_monitor S s n it st' l))
    where
      same_seen : {l : ℕ} {name : Bytes} {y : Seen} {h : TreeHead} {o : Option ℕ} → SeenStands S s.hashed l name y h →
          SeenStands S s.hashed l name (record { head = y.head; digests = y.digests; found = y.found; asked = o }) h
      same_seen x = record {
        kept = λ g e. let a = x.kept g e in record { log = a.log; known = a.known; right = a.right; gives = a.gives; small = a.small };
        at = x.at;
        digests = x.digests;
        texted = x.texted;
        found = x.found;
      }

  abbrev leaf : List Bytes
  leaf = leaf_text S.coding c ∷ []

  as_asked : Reaches S (with_monitor n asked s)
  as_asked = record { events = k; world = w; run = run; stands = asked_stands }

  -- what is hashed for an answer counts
  counted : (v : MonitorView) (told : List Certificate) (o : Option MonitorAnswer) (ts : List Bytes) → Reaches S (hashing ts (with_monitor n v s)) ⊎ Collides S (ts ++ s.hashed) →
      Reaches S (hashing (hashed_for (lastly v told o).says ts) (with_monitor n (lastly v told o).view s)) ⊎ Collides S (hashed_for (lastly v told o).says ts ++ s.hashed)
  counted v told None ts r = r
  counted v told (Some a) ts r = r

  -- the log was asked, and answered or not
  by_what_came : (o : Option Fetched) → came ≡ o → let x = asked_for S.coding p.log o asked in
      Reaches S (hashing (leaf_text S.coding c ∷ asking_texts S p asked o) (with_monitor n x.view s)) ⊎ Collides S ((leaf_text S.coding c ∷ asking_texts S p asked o) ++ s.hashed)
  by_what_came None e = with_more S (with_monitor n asked s) leaf (inl as_asked)
  by_what_came (Some f) e = by_its_log (eqb f.head.log p.log)
    where
      by_its_log : (b : Bool) → let x = cond b (on_fetched S.coding f asked) (record { view = asked; fault = None; tells = [] }) in
          let ts = cond b (unless_fault S (on_fetched S.coding f asked).fault (taking_texts S (asked.logs f.head.log) f)) [] in
          Reaches S (hashing (leaf_text S.coding c ∷ ts) (with_monitor n x.view s)) ⊎ Collides S ((leaf_text S.coding c ∷ ts) ++ s.hashed)
      by_its_log true = with_more S _ leaf (looks S sound s n asked f (lawful f e).0 (lawful f e).1 run asked_stands)
      by_its_log false = with_more S (with_monitor n asked s) leaf (inl as_asked)

  by_answer : (o : Option MonitorAnswer) → let x = answering S.coding S.settings p came it o in
      let ts = hashed_for x.says (leaf_text S.coding c ∷ bringing_texts S p it came o) in Reaches S (hashing ts (with_monitor n x.view s)) ⊎ Collides S (ts ++ s.hashed)
  by_answer (Some a) = with_more S (with_monitor n it s) leaf (inl (record { events = k; world = w; run = run; stands = as_with_monitor S s n st }))
  by_answer None = let x = asked_for S.coding p.log came asked in counted x.view x.tells (answer_by S.coding S.settings x.view.now p (x.view.logs p.log)) _ (by_what_came came refl)

  pub promise_is_brought : Reaches S (step S s (Bring n c p came)) ⊎ Collides S (step S s (Bring n c p came)).hashed
  promise_is_brought = by_fault (first_fault (faults_of_brought S.coding it.now c p))
    where
      by_fault : (o : Option ℕ) → let x = brought_by S.coding S.settings p came it o in
          let ts = hashed_for x.says (leaf_text S.coding c ∷ bringing_texts S p it came (answer_by S.coding S.settings it.now p (it.logs p.log))) in
          Reaches S (hashing ts (with_monitor n x.view s)) ⊎ Collides S (ts ++ s.hashed)
      by_fault (Some i) = inl (record { events = k; world = w; run = run; stands = as_with_monitor S s n st })
      by_fault None = by_answer (answer_by S.coding S.settings it.now p (it.logs p.log))
