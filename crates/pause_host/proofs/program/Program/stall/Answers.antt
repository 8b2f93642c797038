use Rattle.std.proofs.Common.{◌≡◌, Some, sym, ap, ◌∙◌}
use Rattle.wa_model.specs.declared.events.End.TheVariants.{Stalled}
use Rattle.mail_laws.specs.Told.{Await}
use Rattle.pause_host.specs.Mailing.{await_in, awaits_in}
use Rattle.pause_host.specs.Programs.{ending_in, lines_left, memory_at, memory_in, parked_in, receive_in}
use Rattle.pause_host.proofs.program.Program.stall.Goals as goal

pub returns : goal.returns
returns c =
    let x = c.args.self.now in
    let state = sym c.replace.ensures.value ∙ c.in-Live.is in
    let is = c.put_state.ensures in
    record {
      ending = λ r told.
          let same : Some (await_in x.setting c.in-Some.import) ≡ Some r = ap (awaits_in x.setting) (sym c.in-Some.is) ∙ told in
          let this : await_in x.setting c.in-Some.import ≡ r = cc in
          ap ending_in is ∙ ap (λ (z : Await). Some (Stalled z.import)) this;
      awake = (ap receive_in is, ap parked_in is);
      kept = (ap memory_in is ∙ ap memory_at (sym state), ap lines_left is);
    }
