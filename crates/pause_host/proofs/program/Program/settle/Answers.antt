use Rattle.std.proofs.Common.{◌++◌, [], ◌∷◌, Some, refl, sym, ap, ◌∙◌, subst}
use Rattle.wa_types.specs.declared.values.Value.TheVariants as V
use Rattle.mail_laws.specs.Mailboxes.{mailed}
use Rattle.pause_host.specs.declared.program.State.TheVariants.{Live}
use Rattle.pause_host.specs.declared.stages.Pause.{Pause}
use Rattle.pause_host.specs.Programs.{Follows, lines_left, memory_at, memory_in, parked_in, receive_in}
use Rattle.pause_host.proofs.Parked.{settled}
use Rattle.pause_host.proofs.program.Program.settle.Goals as goal

pub returns : goal.returns
returns c =
    let x = c.args.self.now in
    let i = c.in-Live.instance in
    let p = c.in-Paused.pause in
    let state = sym c.replace.ensures.value ∙ c.in-Live.is ∙ ap (Live i) c.in-Paused.is in
    let p' : Pause = record { entry = p.entry; import = p.import; answer = c.mail_answer-answer.result } in
    record {
      follows = λ w notes os calls f.
          subst (Follows w notes (os ++ mailed (Some (V.I32 c.args.value)) 1 ∷ [])) (sym c.put_state.ensures)
          (settled w notes os x i p p' c.args.value state refl refl c.mail_answer-answer.ensures calls f);
      awake = (ap receive_in c.put_state.ensures, ap parked_in c.put_state.ensures);
      kept = (ap memory_in c.put_state.ensures ∙ ap memory_at (sym state), ap lines_left c.put_state.ensures);
    }
