use Rattle.std.proofs.Common.{◌≡◌, ◌∙◌, None, min, length, ap, sym, add-one, arith, rules}
use Rattle.answer.specs.Answer.{bits_in}
use Rattle.sideinfo.specs.Steps.{sum_of}
use Rattle.names.specs.Spelling.{bytes}
use Rattle.print.proofs.Adds.{◌then◌, meant, nothing, room}
use Rattle.slot_table.specs.SlotTable.{eight_of, line_of, rows_of}
use Rattle.slot_table.proofs.Parts.{as_sums, as-table, one_block}
use Rattle.slot_table.proofs.table.Goals as goal

pub loop-block-init : goal.loop-block-init
unfolding rows_of
loop-block-init g c = nothing _ _ (room c.put.ensures)

pub loop-block-preserved : goal.loop-block-preserved
unfolding rows_of
loop-block-preserved g c =
    let n = c.full_channels-nfchans.result in
    meant (sym (ap (rows_of c.args.f.now.slot_bits n) (add-one c.loop-block.block)))
    (c.loop-block.invariant then (c.right.ensures then meant (ap (λ x. line_of None x n) (c.slot_sums.ensures ∙ one_block c.args.f.now.slot_bits c.loop-block.block _ (search rules) (omega arith))) c.line.ensures))

pub returns : goal.returns
unfolding bytes
returns g c =
    let six : length c.args.f.now.slot_bits ≡ 6 = search rules in
    let all : c.loop-block.block ≡ min c.args.f.now.numblks 6 = omega arith in
    meant (as-table c.args.f.now c.full_channels-nfchans.ensures.0 all)
    (c.heading.ensures then c.put.ensures then c.loop-block.invariant
    then meant (as_sums c.args.f.now.slot_bits c.full_channels-nfchans.result c.args.f.now.bytes (c.slot_sums-all.ensures ∙ ap (λ k. eight_of (λ slot. sum_of (λ b. bits_in c.args.f.now.slot_bits b slot) k)) six)) (c.put-2.ensures then c.line-2.ensures then c.put-3.ensures then c.line-3.ensures))
