-- A log signs a head, and a monitor takes one. Assumes nothing.
use Rattle.std.proofs.Common.{◌≡◌, ℕ, suc, true, List, [], ◌∷◌, ◌++◌, sym, refl, ap, ◌∙◌, subst, inl, inr, le_refl, arith}
use mathlib.Core.List.Memᴰ
use Rattle.model.specs.Objects.{TreeHead}
use Rattle.model.specs.Objects.Signed.{Headed}
use Rattle.model.specs.World.{World, start, apply}
use Rattle.model.specs.World.Event.{Signs}
use Rattle.model.specs.Rules.{Steps, MayHead}
use Rattle.model.specs.Rules.Steps.{onward}
use Rattle.wire_theory.specs.Bytes.{Bytes}
use Rattle.wire_theory.specs.Messages.{SignedHead}
use Rattle.parties.specs.Coding.{leaves_of, root_texts_of}
use Rattle.parties.specs.Log.{head_of as signed_head_of}
use Rattle.system.specs.Setup.{Setup, Sound, rules_of}
use Rattle.system.specs.Runs.{Sealed, State, with_log, signing, hashing, log_does, step}
use Rattle.system.specs.Runs.Sealed.{SealedHead}
use Rattle.system.specs.Runs.Move.{GetHead}
use Rattle.system.specs.Stands.{head_of, SealedStands, LogStands, Stands, Reaches}
use Rattle.system.proofs.Framing.{also, among_more, parts_more, quiet_log, quiet_issued, quiet_revoked, heard_with, headed_log, headed_authority}
use Rattle.system.proofs.Adding.{all_texted_more}
use Rattle.system.proofs.Logs.{as_with_log}
use Rattle.system.proofs.Faults.{unless_both}

-- an honest log's head
module _ (S : Setup) (sound : Sound S) (s : State) (l : ℕ) (honest : S.honest_log l ≡ true) (awake : (s.logs l).now ≡ s.clock) {w : World} {k : ℕ} (run : Steps (rules_of S) k start w)
    (st : Stands S s w) where
  abbrev signs_texts : List Bytes
  signs_texts = root_texts_of S.coding (leaves_of S.coding (s.logs l).merged)

  abbrev signed_head : SignedHead
  signed_head = signed_head_of S.coding (s.logs l)

  abbrev its_head : TreeHead
  its_head = head_of signed_head (s.logs l).merged

  own : LogStands S s.hashed w.past s.clock l (s.logs l) (w.entries l)
  own = st.logs l honest

  -- what is pending was promised at this very tick, so it isn't due
  pub may_head : MayHead (rules_of S) w its_head
  may_head = record {
    at = awake ∙ sym st.now;
    entries = sym own.same ∙ ap w.entries (sym own.number);
    kept = λ x h q due. elim (own.kept x (q ∙ own.number) h) [ inl m ↦ m | inr (m, e) ↦ absurd (omega (arith, sound.delayed, awake, st.now)) ];
  }

  head_stands : SealedStands S (signs_texts ++ s.hashed) (Signs (Headed its_head) ∷ w.past) (SealedHead signed_head)
  head_stands = record {
    entries = (s.logs l).merged;
    headed = Memᴰ.head refl;
    count = refl;
    root = refl;
    texted = all_texted_more S (among_more signs_texts) own.merged;
    texts = λ t m. Memᴰ.append_left s.hashed m;
  }

  signs_head : Reaches S (hashing signs_texts (signing (SealedHead signed_head ∷ []) (with_log l (s.logs l) s)))
  signs_head =
      let st' = as_with_log S s l st in
      let p = parts_more S st' {us = signs_texts ++ s.hashed} {fs = Signs (Headed its_head) ∷ w.past} (among_more signs_texts) also (le_refl _) in record {
        events = suc k;
        world = apply w (Signs (Headed its_head));
        run = onward run (Signs (Headed its_head)) (λ h. may_head);
        stands = record {
          now = st.now;
          signed = λ x m. elim (Memᴰ.cases_cons m)
              [ inl z ↦ subst (λ (e : Sealed). SealedStands S (signs_texts ++ s.hashed) (Signs (Headed its_head) ∷ w.past) e) (sym z) head_stands | inr n ↦ p.signed x n ];
          wanted = p.wanted;
          published = p.published;
          logs = λ j h. p.logs j h (quiet_log S st' (headed_log its_head j));
          authorities = λ a h. p.authorities a h (quiet_issued S st' (headed_authority its_head a)) (quiet_revoked S st' (headed_authority its_head a));
          seen = p.seen;
          lists = p.lists;
          kept = p.kept;
          heard = heard_with S (hashing signs_texts (signing (SealedHead signed_head ∷ []) (with_log l (s.logs l) s)))
              (record { wanted = λ x m. m; published = λ x m. m; signed = λ x m. Memᴰ.tail m }) st' (Signs (Headed its_head)) tt;
        };
      }

  pub log_signs_head : Reaches S (step S s (GetHead l))
  log_signs_head = unless_both _ _ _ (λ x. Reaches S (log_does S l x signs_texts s))
      (λ n. record { events = k; world = w; run = run; stands = as_with_log S s l st }) (λ e. signs_head)
