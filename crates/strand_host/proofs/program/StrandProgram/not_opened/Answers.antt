use Rattle.std.proofs.Common.{refl, subst}
use Rattle.wa_types.specs.View.{module_of}
use Rattle.wa_model.specs.declared.events.End.TheVariants as E
use Rattle.wa_model.specs.Instantiation.{opening}
use Rattle.interp_state.specs.Faults.{FailsAs}
use Rattle.strand_host.proofs.StrandBeginnings.{tells_failed}
use Rattle.strand_host.proofs.program.StrandProgram.not_opened.Goals as goal

pub returns-in-HostLimit : goal.returns-in-HostLimit
returns-in-HostLimit c = record {
  next = λ g t ds faults fails at.
      let x = c.args.self.now in
      tells_failed g t x c.fail.new.self c.fail.result (E.HostLimit c.in-HostLimit.entries c.in-HostLimit.found) ds faults (subst (FailsAs (opening (module_of x.valid.now) x.globals.items)) c.in-HostLimit.is fails) refl at
      c.fail.ensures.event c.fail.ensures.state;
}

pub returns-in-ElementsOut : goal.returns-in-ElementsOut
returns-in-ElementsOut c = record {
  next = λ g t ds faults fails at.
      let x = c.args.self.now in
      tells_failed g t x c.fail-in-ElementsOut.new.self c.fail-in-ElementsOut.result (E.ElementsOut c.in-ElementsOut.number) ds faults
      (subst (FailsAs (opening (module_of x.valid.now) x.globals.items)) c.in-ElementsOut.is fails) refl at c.fail-in-ElementsOut.ensures.event c.fail-in-ElementsOut.ensures.state;
}

pub returns-in-BytesOut : goal.returns-in-BytesOut
returns-in-BytesOut c = record {
  next = λ g t ds faults fails at.
      let x = c.args.self.now in
      tells_failed g t x c.fail-in-BytesOut.new.self c.fail-in-BytesOut.result (E.BytesOut c.in-BytesOut.number) ds faults
      (subst (FailsAs (opening (module_of x.valid.now) x.globals.items)) c.in-BytesOut.is fails) refl at c.fail-in-BytesOut.ensures.event c.fail-in-BytesOut.ensures.state;
}
