-- The causes of exceptions of accesses (privileged manual, "Supervisor Cause Register"). AMO and SC are stores, and LR is a load.
use Rattle.std.specs.Prelude.{ℕ}
use Rattle.fc_numbers.specs.declared.machine.Access.{Access}
use Rattle.fc_numbers.specs.declared.machine.Access.TheVariants.{Fetch, Load, Store}
use Rattle.rv_step.specs.declared.causes.TheConstants.{FETCH_MISALIGNED, FETCH_ACCESS_FAULT, FETCH_PAGE_FAULT, LOAD_MISALIGNED, LOAD_ACCESS_FAULT, LOAD_PAGE_FAULT, STORE_MISALIGNED, STORE_ACCESS_FAULT, STORE_PAGE_FAULT}

abbrev pub misaligned_cause : Access → ℕ
misaligned_cause Fetch = FETCH_MISALIGNED
misaligned_cause Load = LOAD_MISALIGNED
misaligned_cause Store = STORE_MISALIGNED

abbrev pub access_fault_cause : Access → ℕ
access_fault_cause Fetch = FETCH_ACCESS_FAULT
access_fault_cause Load = LOAD_ACCESS_FAULT
access_fault_cause Store = STORE_ACCESS_FAULT

abbrev pub page_fault_cause : Access → ℕ
page_fault_cause Fetch = FETCH_PAGE_FAULT
page_fault_cause Load = LOAD_PAGE_FAULT
page_fault_cause Store = STORE_PAGE_FAULT
