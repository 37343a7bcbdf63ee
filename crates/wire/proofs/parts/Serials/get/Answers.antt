use Rattle.std.proofs.Common.{◌≡◌, ◌<◌, [], length, get_or, sym, ap, ◌∙◌, arith, rules}
use Rattle.std.proofs.lemmas.List.{get_or-map}
use Rattle.wire_theory.specs.Bytes.{number, row_of}
use Rattle.wire_theory.proofs.Rows.{numbers_long, rows_long}
use Rattle.wire.proofs.parts.Serials.get.Goals as goal

pub returns : goal.returns
returns c =
    let s = c.args.self.now.bytes.now in
    let here : c.in_ok-bytes.bytes.now ≡ get_or (row_of 8 s) c.args.i [] = search rules in
    let below : c.args.i < length (row_of 8 s) = search rules in
    (omega (arith, numbers_long s, rows_long 8 s), c.number_in.ensures.value ∙ ap number here ∙ sym (get_or-map number (row_of 8 s) c.args.i [] 0 below))
