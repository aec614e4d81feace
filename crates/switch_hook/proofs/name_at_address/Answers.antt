use Rattle.std.proofs.Common.{ℕ, Option, arith, rules, sym, ◌∙◌, ap}
use Rattle.switch_hook.specs.Hook.{address_after, as_name, byte_at}
use Rattle.switch_hook.proofs.Bytes.{read_more, no_name, name_ends, all_read, named}
use Rattle.switch_hook.proofs.name_at_address.Goals as goal
use Rattle.switch_hook.proofs.name_at_address.Goals.{else-loop-k-test, then-loop-k-test+in_ok-byte+then-byte-eq0}

pub returns-in_err-byte : goal.returns-in_err-byte
returns-in_err-byte c =
    let f : ℕ → Option ℕ = λ n. byte_at c.args.ram.now c.args.csr.now (address_after c.args.at n) in
    c.from_residual.ensures ∙ sym (no_name f _ _ c.loop-k.invariant (omega arith) (search rules))

pub loop-k-preserved : goal.loop-k-preserved
loop-k-preserved c =
    rw c.push.ensures.items (read_more _ _ c.in_ok-byte.byte _ c.loop-k.invariant (omega arith) (search rules) c.if-byte-eq0.false)

pub returns : goal.returns
returns c =
    let f : ℕ → Option ℕ = λ n. byte_at c.args.ram.now c.args.csr.now (address_after c.args.at n) in
    named _ c.of.result c.of.ensures.named c.of.ensures.value
    ∙ ap as_name c.as_slice.ensures.value
    ∙ elim c.loop-k-test.branch [ else-loop-k-test w ↦ sym (all_read f _ _ c.loop-k.invariant (omega arith)) | then-loop-k-test+in_ok-byte+then-byte-eq0 w ↦ sym (name_ends f _ w.in_ok-byte.byte _ c.loop-k.invariant (omega arith) (search rules) w.if-byte-eq0.true) ]
