use Rattle.std.proofs.Common.{rules}
use Rattle.wire.specs.declared.kind.Kind.TheVariants as kind
use Rattle.wire.specs.declared.message.Message.TheVariants as message
use Rattle.wire.proofs.Unknown.{accepted_read, get_head_read, get_list_read, made, of_kind}
use Rattle.wire.proofs.reader.message.Goals as goal

pub returns-in-GetHead : goal.returns-in-GetHead
returns-in-GetHead c = of_kind _ _ _ kind.GetHead _ c.in_ok-kind.ensures c.in-GetHead.is (get_head_read _ _ (made _ message.GetHead _ _ c.bare.ensures (λ x h. search rules)))

pub returns-in-GetList : goal.returns-in-GetList
returns-in-GetList c = of_kind _ _ _ kind.GetList _ c.in_ok-kind.ensures c.in-GetList.is (get_list_read _ _ (made _ message.GetList _ _ c.bare-in-GetList.ensures (λ x h. search rules)))

pub returns-in-Accepted : goal.returns-in-Accepted
returns-in-Accepted c = of_kind _ _ _ kind.Accepted _ c.in_ok-kind.ensures c.in-Accepted.is (accepted_read _ _ (made _ message.Accepted _ _ c.bare-in-Accepted.ensures (λ x h. search rules)))
