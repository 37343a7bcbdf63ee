-- There and back. Assumes nothing.
use Rattle.std.proofs.Common.{◌≡◌, ◌++◌, Ok, Err, vec_items, sym, refl, ap, ◌∙◌}
use Rattle.wire_theory.proofs.Decoded.{canonical}
use Rattle.wire.specs.declared.refusal.Refusal.{Refusal}
use Rattle.wire.specs.declared.refusal.Refusal.TheVariants as refusal
use Rattle.wire.specs.Refusals.{Because}
use Rattle.wire.specs.Views.{message_of}
use Rattle.wire_binding.specs.Back.{ReadsBack, WritesBack}

pub reads_back : ReadsBack
reads_back m s e f (Ok n) reads = (n, refl, canonical s (message_of n) (message_of m) reads.encodes (record { bytes = e; fits = f }))
reads_back m s e f (Err x) refuses = absurd (refuses.1 (message_of m) (record { bytes = e; fits = f }))

-- where nothing was wrong, memory was wanting
no_memory : (Wrong : Type 0) (e : Refusal) → (Wrong → ⊥) → Because Wrong e → e ≡ refusal.NoMemory
no_memory Wrong refusal.NoMemory right why = refl
no_memory Wrong refusal.Unreadable right why = absurd (right why)
no_memory Wrong refusal.NotThere right why = absurd why
no_memory Wrong refusal.WrongSignature right why = absurd why
no_memory Wrong refusal.NotPublished right why = absurd why
no_memory Wrong refusal.OldHead right why = absurd why
no_memory Wrong refusal.LeadsElsewhere right why = absurd why
no_memory Wrong refusal.OtherRoot right why = absurd why
no_memory Wrong refusal.OtherPromise right why = absurd why
no_memory Wrong refusal.Expired right why = absurd why
no_memory Wrong refusal.NoFreshList right why = absurd why
no_memory Wrong refusal.Revoked right why = absurd why
no_memory Wrong refusal.Full right why = absurd why
no_memory Wrong (refusal.DoesNotConvict p) right why = absurd why
no_memory Wrong refusal.UsedUp right why = absurd why

pub writes_back : WritesBack
writes_back s m reads before after (Ok x) written = written.items ∙ ap (λ t. vec_items before ++ t) (sym reads.encodes.bytes)
writes_back s m reads before after (Err e) refuses =
    (no_memory _ e (λ wrong. wrong reads.sound reads.encodes.fits) refuses.why, refuses.items)
