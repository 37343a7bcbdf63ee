-- Who issued what is accepted, for whom, and that serials tell orders and certificates apart. Assumes nothing.
use Rattle.std.proofs.Common.{◌≡◌, ℕ, ◌+◌, ◌<◌, ◌≤◌, true, sym, ap, ◌∙◌, subst, arith}
use Rattle.model.specs.Objects.{Certificate, Wish, Order, Acceptance}
use Rattle.model.specs.Objects.Signed.{Issued}
use Rattle.model.specs.World.{Sender, World, Happened, start}
use Rattle.model.specs.World.Sender.{Owner}
use Rattle.model.specs.World.Event.{Asks, Orders, Publishes, Signs, Accepts}
use Rattle.model.specs.Rules.{Rules, Steps, Asked, wish_of, wish_in, response_to, Drawn, Fulfils, MayIssue, MayAccept}
use Rattle.model.specs.Rules.Asked.{by_order, by_message}
use Rattle.model.specs.Guarantees.{AskedFor, Issuing}
use Rattle.model.proofs.Past.{happened_before, happened_stays, Arose, arose_since_start, InOrder, which_first, Later}
use Rattle.model.proofs.Past.InOrder.{same, in_order, in_reverse}
use Rattle.model.proofs.Growth.{arose_by_now, drawn_below_next}

-- what happened when an event arose has happened since
pub still : {r : Rules} {w : World} {e : _} (a : Arose r start w e) (f : _) → Happened a.before f → Happened w f
still {e = e} a f h = happened_stays a.since f (happened_before a.before e f h)

still_asked : {r : Rules} {w : World} {e : _} (a : Arose r start w e) (q : Wish) → Asked a.before q → Asked w q
still_asked a q (by_order o h p) = by_order o (still a (Orders Owner o) h) p
still_asked a q (by_message h) = by_message (still a (Asks q) h)

module _ (r : Rules) (k : ℕ) (w : World) (run : Steps r k start w) where
  pub issuing_arose : (c : Certificate) → Happened w (Signs (Issued c)) → Arose r start w (Signs (Issued c))
  issuing_arose c h = arose_since_start run (Signs (Issued c)) h

  pub accepting_arose : (x : Acceptance) → Happened w (Accepts x) → Arose r start w (Accepts x)
  accepting_arose x h = arose_since_start run (Accepts x) h

  accepted_was_issued : (x : Acceptance) → Happened w (Accepts x) → Happened w (Signs (Issued x.certificate))
  accepted_was_issued x h = let a = accepting_arose x h in
      let may : MayAccept r a.before x = a.may in still a (Signs (Issued x.certificate)) may.issued

  wish_of_response : (o : Order) (c : Certificate) → Fulfils o c → wish_in o ≡ wish_of c
  wish_of_response o c f = λ i. record { name = f.name i; key = f.key i }

  pub issued_was_asked_for : (c : Certificate) → r.honest_authority c.issuer ≡ true → Happened w (Signs (Issued c)) → AskedFor w c
  issued_was_asked_for c honest h = let a = issuing_arose c h in
      let may : MayIssue r a.before c = a.may honest in
      let p = arose_since_start run (Publishes (response_to may.order)) (still a (Publishes (response_to may.order)) may.published) in
      record {
        asked = subst (λ (q : Wish). Asked w q) (wish_of_response may.order c may.fulfils) (still_asked p (wish_in may.order) p.may);
        sender = may.sender;
        order = may.order;
        ordered = still a (Orders may.sender may.order) may.ordered;
        fulfils = may.fulfils;
        published = still a (Publishes (response_to may.order)) may.published;
      }

  issued_expires : (c : Certificate) → r.honest_authority c.issuer ≡ true → Happened w (Signs (Issued c)) → c.expiry ≤ w.now + r.lifetime
  issued_expires c honest h = let a = issuing_arose c h in
      let may : MayIssue r a.before c = a.may honest in
      let by-now : a.before.now ≤ w.now = arose_by_now a in omega (arith, may.expiry)

  -- an honest authority drew no serial that it hasn't used up
  pub drawn_serial_below : (a i : ℕ) → r.honest_authority a ≡ true → Drawn w a i → i < w.next a
  drawn_serial_below a i honest d =
      let below : d.order.serial < w.next d.order.authority = drawn_below_next run d.sender d.order (ap r.honest_authority d.authority ∙ honest) d.ordered in
      omega (arith, ap w.next d.authority, d.serial)

  -- a later order has a higher serial
  serials_rise : (s t : Sender) (o p : Order) → r.honest_authority p.authority ≡ true → p.authority ≡ o.authority → Later r w (Orders s o) (Orders t p) → o.serial < p.serial
  serials_rise s t o p honest q l =
      let a = l.arose in
      let above : a.before.next p.authority ≤ p.serial = a.may honest in
      let below : o.serial < a.before.next o.authority = drawn_below_next a.steps s o (ap r.honest_authority (sym q) ∙ honest) l.first in
      omega (arith, ap a.before.next q)

  one_order : (s t : Sender) (o p : Order) → r.honest_authority o.authority ≡ true → Happened w (Orders s o) → Happened w (Orders t p) →
      p.authority ≡ o.authority → p.serial ≡ o.serial → p ≡ o
  one_order s t o p honest h g q e = cases (which_first run (Orders s o) (Orders t p) h g)
    where
      cases : InOrder r w (Orders s o) (Orders t p) → p ≡ o
      cases (same z) = cc
      cases (in_order l) = let z : o.serial < p.serial = serials_rise s t o p (ap r.honest_authority q ∙ honest) q l in absurd (omega arith)
      cases (in_reverse l) = let z : p.serial < o.serial = serials_rise t s p o honest (sym q) l in absurd (omega arith)

  -- no certificate is issued to a serial after another
  not_after : (c d : Certificate) → r.honest_authority d.issuer ≡ true → c.issuer ≡ d.issuer → c.serial ≡ d.serial → Later r w (Signs (Issued c)) (Signs (Issued d)) → ⊥
  not_after c d honest p q l = let may : MayIssue r l.arose.before d = l.arose.may honest in may.once (c, l.first, p, q)

  one_certificate : (c d : Certificate) → r.honest_authority c.issuer ≡ true → Happened w (Signs (Issued c)) → Happened w (Signs (Issued d)) →
      d.issuer ≡ c.issuer → d.serial ≡ c.serial → d ≡ c
  one_certificate c d honest h g p q = cases (which_first run (Signs (Issued c)) (Signs (Issued d)) h g)
    where
      cases : InOrder r w (Signs (Issued c)) (Signs (Issued d)) → d ≡ c
      cases (same z) = cc
      cases (in_order l) = absurd (not_after c d (ap r.honest_authority p ∙ honest) (sym p) (sym q) l)
      cases (in_reverse l) = absurd (not_after d c honest p q l)

  pub issuing : Issuing r w
  issuing = record {
    accepted_was_issued = accepted_was_issued;
    issued_was_asked_for = issued_was_asked_for;
    issued_expires = issued_expires;
    one_order = one_order;
    one_certificate = one_certificate;
  }
