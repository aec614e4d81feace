-- The registers as contracts see them (privileged manual, "Supervisor CSRs").
use Rattle.std.specs.Prelude.{ℕ}

pub record Csrs : Type 0 where
  pub sstatus : ℕ
  pub sie : ℕ
  pub stvec : ℕ
  pub scounteren : ℕ
  pub sscratch : ℕ
  pub sepc : ℕ
  pub scause : ℕ
  pub stval : ℕ
  pub satp : ℕ
