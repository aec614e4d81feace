-- What one instruction does: a line for each class, over the registers and addresses that its fields name.
-- Unprivileged manual, "RV64I Base Integer Instruction Set" and its extensions M, A and Zicsr; privileged manual, "Supervisor Instructions".
use Rattle.std.specs.Prelude.{ℕ, bit_and}
use Rattle.rv_decode.specs.declared.Inst.{Inst}
use Rattle.rv_kinds.specs.declared.Kind.{Kind}
use Rattle.rv_kinds.specs.declared.Kind.TheVariants.{Alu, Branch, Load, Store, Lui, Auipc, Jal, Jalr, Nothing, Call, Break, Return, FenceVma, Csr, Reserve, Conditional, Amo}
use Rattle.rv_kinds.specs.Kinds.{kind_of}
use Rattle.rv_step.specs.declared.causes.TheConstants.{BREAKPOINT}
use Rattle.rv_step.specs.Site.{Site, Outcome, of_vcpu, of_memory, of_devices, reg_of, num, plus}
use Rattle.rv_step.specs.Classes.{did_alu, did_put, did_jump, did_branch, did_nothing, did_load, did_store, did_amo, did_reserve, did_conditional, did_csr, did_call, did_return, did_fence, trap_on_vcpu}

-- JALR clears bit 0 of its target; a jump's link and every next address count from the instruction's length
unfoldable pub done_by : Kind → ℕ → ℕ → Site → Outcome
done_by (Alu i) len clock s = of_vcpu s (did_alu s.vcpu len i)
done_by (Branch i) len clock s = of_vcpu s (did_branch s.vcpu len i)
done_by (Load i) len clock s = of_vcpu s (did_load s.vcpu s.ram len i)
done_by (Store i) len clock s = of_memory s (did_store s.vcpu s.ram len i)
done_by (Lui i) len clock s = of_vcpu s (did_put s.vcpu len i.rd (num i.imm))
done_by (Auipc i) len clock s = of_vcpu s (did_put s.vcpu len i.rd (plus s.vcpu.pc i.imm))
done_by (Jal i) len clock s = of_vcpu s (did_jump s.vcpu len i.rd (plus s.vcpu.pc i.imm))
done_by (Jalr i) len clock s = of_vcpu s (did_jump s.vcpu len i.rd (bit_and (plus (reg_of s.vcpu i.rs1) i.imm) 0xfffffffffffffffe))
done_by Nothing len clock s = of_vcpu s (did_nothing s.vcpu len)
done_by Call len clock s = did_call s len clock
done_by Break len clock s = of_vcpu s (trap_on_vcpu s.vcpu BREAKPOINT s.vcpu.pc)
done_by Return len clock s = of_vcpu s (did_return s.vcpu)
done_by FenceVma len clock s = of_vcpu s (did_fence s.vcpu len)
done_by (Csr op rd csr source) len clock s = of_devices s (did_csr s.vcpu s.devices len (record { op = op; rd = rd; csr = csr; source = source }) clock)
done_by (Reserve i) len clock s = of_vcpu s (did_reserve s.vcpu s.ram len i)
done_by (Conditional width rd rs1 rs2) len clock s = of_memory s (did_conditional s.vcpu s.ram len (record { width = width; rd = rd; rs1 = rs1; rs2 = rs2 }))
done_by (Amo i) len clock s = of_memory s (did_amo s.vcpu s.ram len i)

-- one instruction of so many bytes at this clock
unfoldable pub did : Inst → ℕ → ℕ → Site → Outcome
did inst len clock s = done_by (kind_of inst) len clock s
