-- Every run stands for a run of the model, or two texts that were hashed in it collide. Assumes nothing.
use Rattle.std.proofs.Common.{◌≡◌, ℕ, zero, suc, ◌⊎◌, [], None, sym, refl, ◌∙◌, inl, inr, arith}
use mathlib.Core.List.Memᴰ
use Rattle.merkle_theory.proofs.RootTells.{collision_within}
use Rattle.model.specs.World.{start}
use Rattle.model.specs.Rules.Steps.{here}
use Rattle.wire_theory.specs.Bytes.{Bytes}
use Rattle.parties.specs.Authority.{account_of}
use Rattle.parties.specs.Monitor.{with_name}
use Rattle.system.specs.Setup.{Setup, Sound, Collides}
use Rattle.system.specs.Runs.{State, Move, step, Allowed, begin}
use Rattle.system.specs.Runs.Move.{Passes, Want, Publish, WakeAuthority, Order, Published, Revoke, Withdraw, GetList, WakeLog, Submit, GetHead, WakeMonitor, Take, Bring, WakeRelying, GiveList, Present, Settle}
use Rattle.system.specs.Runs.Run.{at_first, after}
use Rattle.system.specs.Stands.{Within, Reaches, Refines}
use Rattle.system.proofs.Faults.{some_none}
use Rattle.system.proofs.Owners.{time_passes, owner_asks, owner_publishes}
use Rattle.system.proofs.Logs.{log_wakes}
use Rattle.system.proofs.Promises.{log_promises}
use Rattle.system.proofs.Heads.{log_signs_head}
use Rattle.system.proofs.Monitors.{monitor_wakes, monitor_takes, promise_is_brought}
use Rattle.system.proofs.RelyingParties.{relying_wakes, relying_settles, relying_gets_list, relying_presented}
use Rattle.system.proofs.Authorities.{authority_wakes}
use Rattle.system.proofs.Orders.{authority_draws, authority_lists, authority_revokes, authority_withdraws, authority_issues}

no_accounts : (i : ℕ) → account_of i [] ≡ None
unfolding account_of
no_accounts zero = refl
no_accounts (suc i) = refl

none_with_name : (name : Bytes) → with_name name [] ≡ []
unfolding with_name
none_with_name name = refl

begins : (S : Setup) → Reaches S (begin S)
begins S = record {
  events = 0;
  world = start;
  run = here;
  stands = record {
    now = refl;
    signed = λ x m. elim m [ ];
    wanted = λ x m. elim m [ ];
    published = λ x m. elim m [ ];
    logs = λ l h. record { number = refl; early = omega arith; same = refl; merged = λ c m. elim m [ ]; texted = λ c m. elim m [ ]; owed = λ c m. elim m [ ]; kept = λ x q m. elim m [ ] };
    authorities = λ a h. record { number = refl; early = omega arith; drawn = refl; ordered = λ i x e. some_none (sym e ∙ no_accounts i); issued = λ c q m. elim m [ ]; revoked = λ g q m. elim m [ ]; happened = λ i x t e was. some_none (sym e ∙ no_accounts i) };
    seen = λ n l. record { kept = λ g e. some_none (sym e); at = refl; digests = refl; texted = λ c m. elim m [ ]; found = sym (none_with_name (S.watched n)) };
    lists = λ k a. tt;
    kept = λ k x m. elim m [ ];
    heard = λ e m. elim m [ ];
  };
}

-- each move that is allowed goes on from a world for which the state stands
goes_on : (S : Setup) → Sound S → (s : State) (m : Move S) → Allowed S s m → Reaches S s → Reaches S (step S s m) ⊎ Collides S (step S s m).hashed
goes_on S sound s Passes ok r = inl (time_passes S r.run r.stands)
goes_on S sound s (Want q) ok r = inl (owner_asks S r.run r.stands q)
goes_on S sound s (Publish p) (wanted, small, nonce, key) r = inl (owner_publishes S r.run r.stands p wanted small nonce key)
goes_on S sound s (WakeAuthority a) honest r = inl (authority_wakes S s a honest r.run r.stands)
goes_on S sound s (Order a name key) (up, sized) r = inl (authority_draws S s a up r.run r.stands name key sized)
goes_on S sound s (Published a serial found) (up, seen) r = authority_issues S s a up r.run r.stands sound serial found seen
goes_on S sound s (Revoke a serial seal) up r = inl (authority_revokes S s a up r.run r.stands serial seal)
goes_on S sound s (Withdraw a serial) up r = inl (authority_withdraws S s a up r.run r.stands serial)
goes_on S sound s (GetList a) up r = inl (authority_lists S s a up r.run r.stands)
goes_on S sound s (WakeLog l) honest r = log_wakes S sound s l honest r.run r.stands
goes_on S sound s (Submit l c) (up, law, readable) r = log_promises S sound s l up.honest up.awake c readable law r.run r.stands
goes_on S sound s (GetHead l) up r = inl (log_signs_head S sound s l up.honest up.awake r.run r.stands)
goes_on S sound s (WakeMonitor n) ok r = inl (monitor_wakes S s n r.run r.stands)
goes_on S sound s (Take n f) (law, readable) r = monitor_takes S sound s n f law readable r.run r.stands
goes_on S sound s (Bring n c p came) lawful r = promise_is_brought S sound s n c p came lawful r.run r.stands
goes_on S sound s (WakeRelying k) ok r = inl (relying_wakes S s k r.run r.stands)
goes_on S sound s (GiveList k b) law r = inl (relying_gets_list S s k r.run r.stands b law)
goes_on S sound s (Present k c p q) (awake, law, law-p, law-q, readable) r = relying_presented S sound s k awake c p q law law-p law-q readable r.run r.stands
goes_on S sound s (Settle k i which a) ok r = inl (relying_settles S s k r.run r.stands i which a)

-- texts that were hashed stay among them
still_hashed : (S : Setup) (s : State) (m : Move S) → Within S s.hashed (step S s m).hashed
still_hashed S s Passes t m = m
still_hashed S s (Want q) t m = m
still_hashed S s (Publish p) t m = Memᴰ.tail m
still_hashed S s (WakeAuthority a) t m = m
still_hashed S s (Order a name key) t m = Memᴰ.append_right _ m
still_hashed S s (Published a serial found) t m = Memᴰ.append_right _ m
still_hashed S s (Revoke a serial seal) t m = Memᴰ.append_right _ m
still_hashed S s (Withdraw a serial) t m = Memᴰ.append_right _ m
still_hashed S s (GetList a) t m = Memᴰ.append_right _ m
still_hashed S s (WakeLog l) t m = m
still_hashed S s (Submit l c) t m = Memᴰ.append_right _ m
still_hashed S s (GetHead l) t m = Memᴰ.append_right _ m
still_hashed S s (WakeMonitor n) t m = m
still_hashed S s (Take n f) t m = Memᴰ.append_right _ m
still_hashed S s (Bring n c p came) t m = Memᴰ.append_right _ m
still_hashed S s (WakeRelying k) t m = m
still_hashed S s (GiveList k b) t m = Memᴰ.append_right _ m
still_hashed S s (Present k c p q) t m = Memᴰ.append_right _ m
still_hashed S s (Settle k i which a) t m = m

pub refines : Refines
refines S sound s at_first = inl (begins S)
refines S sound s (after {s = before} run m ok) = elim (refines S sound before run)
    [ inl r ↦ goes_on S sound before m ok r | inr z ↦ inr (collision_within (still_hashed S before m) z) ]
