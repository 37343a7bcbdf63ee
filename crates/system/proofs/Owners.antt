-- Time passes; owners ask, and publish. Assumes nothing.
use Rattle.std.proofs.Common.{◌≡◌, ℕ, suc, ◌+◌, ◌^◌, ◌<◌, [], ◌∷◌, length, sym, refl, ap, subst, inl, inr, le_refl, arith}
use mathlib.Core.List.Memᴰ
use Rattle.model.specs.Lists.{◌∈◌}
use Rattle.model.specs.Objects.{Wish, Response}
use Rattle.model.specs.World.{World, start, apply}
use Rattle.model.specs.World.Event.{Tick, Asks, Publishes}
use Rattle.model.specs.Rules.{Steps}
use Rattle.model.specs.Rules.Asked.{by_message}
use Rattle.model.specs.Rules.Steps.{onward}
use Rattle.system.specs.Setup.{Setup, rules_of}
use Rattle.system.specs.Runs.{Place, State, passed, wanting, publishing, hashing}
use Rattle.system.specs.Stands.{Stands, PlaceStands, Reaches}
use Rattle.system.proofs.Framing.{also, parts_more, quiet_log, quiet_issued, quiet_revoked, heard_with, unchanged, tick_log, tick_authority, asks_log, asks_authority, publishes_log, publishes_authority}

module _ (S : Setup) {s : State} {w : World} {k : ℕ} (run : Steps (rules_of S) k start w) (st : Stands S s w) where
  pub time_passes : Reaches S (passed s)
  time_passes = let p = parts_more S st (λ t m. m) also (omega arith) in record {
    events = suc k;
    world = apply w Tick;
    run = onward run Tick tt;
    stands = record {
      now = ap (λ n. n + 1) st.now;
      signed = p.signed;
      wanted = p.wanted;
      published = p.published;
      logs = λ l honest. p.logs l honest (quiet_log S st (tick_log l));
      authorities = λ a honest. p.authorities a honest (quiet_issued S st (tick_authority a)) (quiet_revoked S st (tick_authority a));
      seen = p.seen;
      lists = p.lists;
      kept = p.kept;
      heard = heard_with S (passed s) (unchanged s (passed s) refl refl refl) st Tick tt;
    };
  }

  pub owner_asks : (q : Wish) → Reaches S (wanting q s)
  owner_asks q = let p = parts_more S st (λ t m. m) also (le_refl _) in record {
    events = suc k;
    world = apply w (Asks q);
    run = onward run (Asks q) tt;
    stands = record {
      now = st.now;
      signed = p.signed;
      wanted = λ x m. elim (Memᴰ.cases_cons m) [ inl z ↦ Memᴰ.head (ap Asks z) | inr n ↦ p.wanted x n ];
      published = p.published;
      logs = λ l honest. p.logs l honest (quiet_log S st (asks_log q l));
      authorities = λ a honest. p.authorities a honest (quiet_issued S st (asks_authority q a)) (quiet_revoked S st (asks_authority q a));
      seen = p.seen;
      lists = p.lists;
      kept = p.kept;
      heard = heard_with S (wanting q s) (record { wanted = λ x m. Memᴰ.tail m; published = λ x m. m; signed = λ x m. m }) st (Asks q) (Memᴰ.head refl);
    };
  }

  pub owner_publishes : (r : Response) → record { name = r.name; key = r.key } ∈ s.wanted → r.serial < 2 ^ 64 → length r.nonce ≡ 16 → length r.key ≡ 32 →
      Reaches S (publishing (record { name = r.name; found = S.coding.hash (S.coding.response_text r.serial r.nonce r.key) })
      (hashing (S.coding.response_text r.serial r.nonce r.key ∷ []) s))
  owner_publishes r wanted small nonce key =
      let t = S.coding.response_text r.serial r.nonce r.key in
      let f : Place = record { name = r.name; found = S.coding.hash t } in
      let p = parts_more S st {us = t ∷ s.hashed} {fs = Publishes r ∷ w.past} (λ x m. Memᴰ.tail m) also (le_refl _) in
      let mine : PlaceStands S (t ∷ s.hashed) (Publishes r ∷ w.past) f =
      record { response = r; published = Memᴰ.head refl; name = refl; found = refl; serial = small; nonce = nonce; key = key; text = Memᴰ.head refl } in
      record {
        events = suc k;
        world = apply w (Publishes r);
        run = onward run (Publishes r) (by_message (st.wanted _ wanted));
        stands = record {
          now = st.now;
          signed = p.signed;
          wanted = p.wanted;
          published = λ x m. elim (Memᴰ.cases_cons m) [ inl z ↦ subst (λ (y : Place). PlaceStands S (t ∷ s.hashed) (Publishes r ∷ w.past) y) (sym z) mine | inr n ↦ p.published x n ];
          logs = λ l honest. p.logs l honest (quiet_log S st (publishes_log r l));
          authorities = λ a honest. p.authorities a honest (quiet_issued S st (publishes_authority r a)) (quiet_revoked S st (publishes_authority r a));
          seen = p.seen;
          lists = p.lists;
          kept = p.kept;
          heard = heard_with S (publishing f (hashing (t ∷ []) s)) (record { wanted = λ x m. m; published = λ x m. Memᴰ.tail m; signed = λ x m. m }) st (Publishes r) (Memᴰ.head refl);
        };
      }
