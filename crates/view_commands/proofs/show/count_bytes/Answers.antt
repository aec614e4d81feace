use Rattle.std.proofs.Common.{◌≡◌, ◌≤◌, ℕ, ◌+◌, ap, sym, ◌∙◌, arith}
use Rattle.std.specs.Prelude.{if◌then◌else◌}
use Rattle.std.specs.List.{range_with_len, sum_by}
use Rattle.fc_numbers.specs.Spans.{size_of}
use Rattle.fc_numbers.specs.declared.spans.TheConstants.{TEXT_MOST}
use Rattle.function_table.specs.Groups.{range_of}
use Rattle.view_commands.specs.Show.{has_group}
use Rattle.view_commands.proofs.Groups.{group-few}
use Rattle.view_commands.proofs.Sizes.{sum-more}
use Rattle.view_commands.proofs.show.count_bytes.Goals as goal

pub overflow_add-bytes : goal.overflow_add-bytes
overflow_add-bytes c =
    let few : c.bytes_of-bytes.result ≤ TEXT_MOST = group-few c.args.table.now c.loop-g.g c.bytes_of-bytes.result (has_group c.args.base.now c.loop-g.g) c.groups-g-end.ensures.lawful c.bytes_of-bytes.ensures in
    omega (arith, c.loop-g.invariant.1, few)

pub loop-g-preserved : goal.loop-g-preserved
loop-g-preserved c =
    let few : c.bytes_of-bytes.result ≤ TEXT_MOST = group-few c.args.table.now c.loop-g.g c.bytes_of-bytes.result (has_group c.args.base.now c.loop-g.g) c.groups-g-end.ensures.lawful c.bytes_of-bytes.ensures in (
      ap (λ n. n + c.bytes_of-bytes.result) c.loop-g.invariant.0
          ∙ ap (λ n. sum_by (λ g. if has_group c.args.base.now g then size_of (range_of c.args.table.now g) else 0) (range_with_len 0 c.loop-g.g) + n) c.bytes_of-bytes.ensures
          ∙ sym (sum-more (λ g. if has_group c.args.base.now g then size_of (range_of c.args.table.now g) else 0) c.loop-g.g),
      omega (arith, c.loop-g.invariant.1, few),
    )
