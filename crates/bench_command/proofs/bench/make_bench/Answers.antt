use Rattle.std.proofs.Common.{◌≡◌, ◌∙◌, ap, ℕ, arith, []}
use Rattle.guest_input.specs.declared.image.Image.{Image}
use Rattle.guest_input.specs.declared.setup.Setup.{Setup}
use Rattle.trace_file.specs.Trace.{told_of_trace}
use Rattle.run_evidence.specs.Config.{Config, IsConfig}
use Rattle.profiler.specs.Profile.{IsProfiled, unviewed}
use Rattle.guest_runs.specs.Driven.{IsDriven}
use Rattle.bench_command.proofs.Setups.{carried, with_steps}
use Rattle.bench_command.proofs.bench.make_bench.Goals as goal

pub returns-clause-said : goal.returns-clause-said
returns-clause-said c =
    let trace = told_of_trace c.in_ok-driven.driven.trace in
    let console = c.in_ok-driven.driven.console.items in
    let config : Image → Setup → Config = λ i s. record { image = i; setup = record s { steps = 8000 }; views = c.in-Ok.profiled.views } in
    let lawful : IsConfig (config c.in_ok-image.image c.in_ok-image.setup) = record {
      image = c.in_ok-image.ensures.lawful;
      setup = with_steps c.in_ok-image.image c.in_ok-image.setup 8000 c.in_ok-image.ensures.accepted (omega arith) (omega (arith, ap (λ (s : Setup). s.vcpus) c.in_ok-image.ensures.setup));
      views = c.in-Ok.ensures.accepted;
    } in
    λ words at. record {
      profiled = c.in-Ok.profiled;
      profile = carried (λ i s. IsProfiled (unviewed i (record s { steps = 2000 })) c.in-Ok.profiled) c.in_ok-image.ensures.image c.in_ok-image.ensures.setup c.in-Ok.ensures.profiles;
      lawful = carried (λ i s. IsConfig (config i s)) c.in_ok-image.ensures.image c.in_ok-image.ensures.setup lawful;
      trace = trace;
      console = console;
      driven = carried (λ i s. IsDriven (config i s) [] trace console) c.in_ok-image.ensures.image c.in_ok-image.ensures.setup c.in_ok-driven.ensures;
      files = c.new.ensures;
      out = c.in_ok-from_slice.ensures ∙ c.as_bytes.ensures.value ∙ c.in_ok-lines.ensures;
      ended = c.ended_of.ensures;
    }
