use Rattle.std.proofs.Common.{true, false, not, ◌≡◌, refl, sym, ap, ◌∙◌, subst}
use Rattle.std.proofs.lemmas.Bool.{false≢true}
use Rattle.interp.specs.Host.{code_in, store_in, waits_in}
use Rattle.pause_host.specs.Views.{left_of}
use Rattle.pause_host.specs.declared.stages.Stage.TheVariants as S
use Rattle.pause_host.proofs.Callings.{told_inside}
use Rattle.strand_host.specs.StrandPrograms.{TellsEvent, set_to, stock_of}
use Rattle.strand_host.proofs.GoingOn.{hosts}
use Rattle.strand_host.proofs.StartAnswers.{answer_told}
use Rattle.strand_host.proofs.TheLaws.{all_laws}
use Rattle.strand_host.proofs.program.StrandProgram.start_answered.Goals as goal
use Rattle.strand_host.proofs.program.StrandProgram.start_answered.Goals.{in-Free, in_default}

pub tell_answer-moved-requires-clause-inside : goal.tell_answer-moved-requires-clause-inside
tell_answer-moved-requires-clause-inside c =
    let h = c.requires.goes in
    let s = c.args.strand in
    let x = stock_of c.args.self.now in
    told_inside (set_to x.setting s.area) (code_in c.args.instance) (left_of s.left) (store_in c.args.instance) (waits_in c.args.instance) c.args.task c.args.answer
    (hosts h.0 h.1 x c.args.instance 0 (record s { stage = S.Answering c.args.task c.args.answer }) true h.2)

pub returns : goal.returns
returns c = record {
  next = λ gw t ds fs at.
      let s = c.args.strand in
      let m = c.tell_answer-moved.result in
      let i' = c.tell_answer-moved.new.instance in
      let free : (not c.match-matches.matches ≡ false → m.stage ≡ S.Free) × (not c.match-matches.matches ≡ true → m.stage ≡ S.Free → ⊥) =
      elim c.match-matches.branch [
        | in-Free w ↦ ((λ e. w.in-Free.is), (λ e f. absurd (false≢true (sym (ap not w.matches-is) ∙ e))))
        | in_default w ↦ ((λ e. absurd (false≢true (sym (sym (ap not w.matches-is) ∙ e)))), (λ e. w.in_default.not-Free))
      ] in
      let told = answer_told all_laws gw t (stock_of c.args.self.now) c.args.instance s c.args.task c.args.answer at c.requires.starts i' m c.tell_answer-moved.ensures.stage
      c.tell_answer-moved.ensures.pauses c.tell_answer-moved.ensures.comes (not c.match-matches.matches) free.0 free.1 (c.tell_answer-moved.ensures.code ∙ at.code) c.args.self.now c.tell.new.self ds fs refl c.tell.ensures.settles in
      let same : record { strand = 0; event = m.event } ≡ c.tell.result =
      ap (λ n. record { strand = n; event = m.event }) (sym c.tell.ensures.event.0) ∙ ap (λ e. record { strand = c.tell.result.strand; event = e }) (sym c.tell.ensures.event.1) in
      subst (λ z. TellsEvent gw t z ds fs ds fs c.tell.new.self) same told;
}
