use Rattle.std.proofs.Common.{◌≡◌, ℕ, ◌+◌, ◌-◌, ◌/◌, ◌<◌, List, [], length, get_or, ap, sym, ◌∙◌, arith}
use Rattle.std.proofs.lemmas.List.{get_or-map}
use Rattle.wire_theory.specs.Bytes.{Bytes, number, numbers, row_of}
use Rattle.wire_theory.proofs.Rows.{above_middle, below_middle, numbers_long, rows_long}
use Rattle.wire.proofs.parts.Serials.contains.Goals as goal

number_read : (s : Bytes) (rows : List Bytes) (i here : ℕ) → rows ≡ row_of 8 s → i < length rows → here ≡ number (get_or rows i []) → get_or (numbers 8 s) i 0 ≡ here
number_read s rows i here cut within is =
    get_or-map number (row_of 8 s) i [] 0 (omega (arith, ap length cut)) ∙ ap (λ rs. number (get_or rs i [])) (sym cut) ∙ sym is

pub loop-low-init : goal.loop-low-init
loop-low-init c =
    let s = c.args.self.now.bytes.now in
    let long = ap length c.pieces-serials.ensures in
    (omega arith, λ rising k l e. (omega arith, omega (arith, long, numbers_long s, rows_long 8 s)))

pub returns-then-here-serial : goal.returns-then-here-serial
returns-then-here-serial c =
    let s = c.args.self.now.bytes.now in
    let i = c.loop-low.low + (c.loop-low.high - c.loop-low.low) / 2 in
    let here = number_read s _ i _ c.pieces-serials.ensures (omega arith) c.number_in-here.ensures.value in
    (i, omega (arith, ap length c.pieces-serials.ensures, numbers_long s, rows_long 8 s), here ∙ c.if-here-serial.true)

pub loop-low-preserved-then-here-serial-2 : goal.loop-low-preserved-then-here-serial-2
loop-low-preserved-then-here-serial-2 c =
    let s = c.args.self.now.bytes.now in
    let i = c.loop-low.low + (c.loop-low.high - c.loop-low.low) / 2 in
    let long = ap length c.pieces-serials.ensures in
    let here = number_read s _ i _ c.pieces-serials.ensures (omega arith) c.number_in-here.ensures.value in
    (omega arith, λ rising k l e. (above_middle (numbers 8 s) c.args.serial i k rising (omega (arith, long, numbers_long s, rows_long 8 s)) (omega (arith, here)) l e, (c.loop-low.invariant.1 rising k l e).1))

pub loop-low-preserved : goal.loop-low-preserved
loop-low-preserved c =
    let s = c.args.self.now.bytes.now in
    let i = c.loop-low.low + (c.loop-low.high - c.loop-low.low) / 2 in
    let here = number_read s _ i _ c.pieces-serials.ensures (omega arith) c.number_in-here.ensures.value in (
      omega arith,
      λ rising k l e.
          ((c.loop-low.invariant.1 rising k l e).0, below_middle (numbers 8 s) c.args.serial i k rising (λ same. omega (arith, here, same)) (omega (arith, here)) l e),
    )
