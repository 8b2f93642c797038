-- How a program of a world with mailboxes ends, beside its original.
use Rattle.std.proofs.Common.{◌≡◌, ℕ, List, [], ◌∷◌, take, Some, Bool, true, false, All, refl, sym, ap, ◌∙◌, subst}
use Rattle.std.specs.Prelude.{nat_eq, slice_get, ◌||◌, ◌&&◌}
use Rattle.wa_types.specs.Runtime.{global_space}
use Rattle.wa_model.specs.declared.answers.Detach.{Detach}
use Rattle.wa_model.specs.declared.events.End.{End}
use Rattle.wa_model.specs.declared.events.End.TheVariants.{Stalled}
use Rattle.wa_model.specs.Outside.{Event, Line, ended}
use Rattle.wa_model.specs.Plan.{Outcome, OutcomeFits}
use Rattle.wa_model.specs.Blocking.{Note}
use Rattle.world_model.specs.World.{Device, Original, Program, answers_from, is_end}
use Rattle.world_laws.specs.Bounded.{ends_astray}
use Rattle.world_laws.specs.Originals.{MayRun, Orderly, StandsIn, new_calls}
use Rattle.world_laws.proofs.Meeting.{AnswersFit}
use Rattle.world_laws.proofs.Stories.{stories_of_originals}
use Rattle.world_laws.proofs.Worlds.{take_first}
use Rattle.mail_laws.specs.MailOriginals.{RunsAsFar, met}
use Rattle.mail_laws.specs.MailWorld.{Actor, HeldStory, ProtocolWorld, StartsHeld, StoryOrCut, begins_over, sharing, unblocked, waits}
use Rattle.mail_laws.specs.Stalling.{is_stalled, stalls}
use Rattle.mail_laws.proofs.CallsInRange.{Met}
use Rattle.mail_laws.proofs.CutStories.{cut_stories}
use Rattle.mail_laws.proofs.MailOriginals.{told_as_far, told_plainly}
use Rattle.world_hosting.specs.Endings.{ends_spent, ends_unwound, tells_any}
use Rattle.world_hosting.specs.MailEndings.{EndsOrStalls}
use Rattle.world_hosting.proofs.MailLines.{Others, lines_any}
use Rattle.world_hosting.proofs.MailStories.{cut_calm, cut_unended}
use Rattle.world_hosting.proofs.StoryEnds.{any_note, astray_alone, orderly_story, same_events, spent_alone, unwinds_story, unwound_alone, unwound_story, whole_story}

-- what its original's story tells, which is cut where it waits
pub record HasCutStory (o : Original) (a : Actor) : Type 0 where
  pub fits : All OutcomeFits (met a)
  pub notes : List Note
  pub story : StoryOrCut o.settings o.program (met a) notes
  pub same : (test : Event → Bool) → any_note test a.notes ≡ any_note test notes

pub has_cut_story : (o : Original) (w : Program) (a : Actor) → StandsIn o w → MayRun o → StartsHeld w a → Met a → RunsAsFar Orderly o w a → HasCutStory o a
has_cut_story o w a st may held meets far =
    let fit : AnswersFit a.answers = subst AnswersFit (sym (held.starts.answers ∙ ap (answers_from w.answers) st.start ∙ st.answers)) may.answers in
    let t = meets.2 in
    let in_range = t.3 fit in
    let is_met : met a ≡ t.0 = ap (take (new_calls a.notes)) t.1 ∙ take_first t.0 meets.0 (new_calls a.notes) t.2 in
    let r =
    told_as_far MayRun Orderly told_plainly stories_of_originals cut_stories o w a t.0 meets.0 st may in_range.0 is_met t.2
    (subst (λ (os : List Outcome). HeldStory w os a.notes) t.1 held.story) far in
    record {
      fits = subst (All OutcomeFits) (sym is_met) in_range.0;
      notes = r.0;
      story = subst (λ (os : List Outcome). StoryOrCut o.settings o.program os r.0) (sym is_met) r.1;
      same = λ test. same_events test (global_space o.program.source) o.program.plan.area r.0 a.notes r.2;
    }

-- ---- ends that aren't stalls

not_true : false ≡ true → ⊥
not_true e = cc

abbrev goes_on : End → Bool
goes_on (Stalled import) = false
goes_on how = true

abbrev ends_otherwise : Event → Bool
ends_otherwise (ended how) = goes_on how
ends_otherwise e = false

end_otherwise : (e : Event) → stalls e ≡ false → is_end e ≡ ends_otherwise e
end_otherwise (ended how) h = by how h
  where
    by : (how : End) → is_stalled how ≡ false → true ≡ goes_on how
    by (Stalled import) f = absurd cc
    by _ f = refl
end_otherwise _ h = refl

no_end : (e : Event) → is_end e ≡ false → ends_otherwise e ≡ false
no_end (ended how) h = absurd cc
no_end _ h = refl

none_otherwise : (ns : List Note) → any_note is_end ns ≡ false → any_note ends_otherwise ns ≡ false
none_otherwise [] h = refl
none_otherwise (x ∷ ns) h = by (is_end x.event) refl h (none_otherwise ns)
  where
    by : (b : Bool) → is_end x.event ≡ b → (b || any_note is_end ns) ≡ false → (any_note is_end ns ≡ false → any_note ends_otherwise ns ≡ false)
        → (ends_otherwise x.event || any_note ends_otherwise ns) ≡ false
    by true e f on = absurd cc
    by false e f on = ap (λ (b : Bool). b || any_note ends_otherwise ns) (no_end x.event e) ∙ on f

-- a program that tells an end, and doesn't stall, tells another
told_otherwise : (i : ℕ) (lines : List Line) → tells_any i stalls lines ≡ false → tells_any i is_end lines ≡ true → tells_any i ends_otherwise lines ≡ true
told_otherwise i [] calm e = absurd (not_true e)
told_otherwise i (l ∷ lines) calm e = by (nat_eq l.program i) (stalls l.event) refl calm e (told_otherwise i lines)
  where
    by_end : (b : Bool) → (b || tells_any i is_end lines) ≡ true → (tells_any i is_end lines ≡ true → tells_any i ends_otherwise lines ≡ true)
        → (b || tells_any i ends_otherwise lines) ≡ true
    by_end true f on = refl
    by_end false f on = on f

    by : (a b : Bool) → stalls l.event ≡ b → ((a && b) || tells_any i stalls lines) ≡ false → ((a && is_end l.event) || tells_any i is_end lines) ≡ true
        → (tells_any i stalls lines ≡ false → tells_any i is_end lines ≡ true → tells_any i ends_otherwise lines ≡ true)
        → ((a && ends_otherwise l.event) || tells_any i ends_otherwise lines) ≡ true
    by false b f h g on = on h g
    by true true f h g on = absurd (not_true (sym h))
    by true false f h g on = by_end (ends_otherwise l.event) (ap (λ (b : Bool). b || tells_any i is_end lines) (sym (end_otherwise l.event f)) ∙ g) (on h)

-- ---- how it ends

module _ (programs : List Program) (detaches : List Detach) (boxes : List (List ℕ)) (ds ds' : List Device) (lines : List Line) (world : ProtocolWorld programs detaches boxes ds lines ds')
    (number : ℕ) (o : Original) (w : Program) (a : Actor) (program : slice_get programs number ≡ Some w) (there : slice_get world.actors number ≡ Some a) (going : begins_over w ≡ false)
    (h : HasCutStory o a) where
  tells : (test : Event → Bool) → Others test → tells_any number test lines ≡ any_note test h.notes
  tells test others =
      lines_any test others programs detaches number 1 world.actors world.runs.last (sharing boxes ds) world.runs.shared lines world.runs.events world.runs.over a there ∙ h.same test

  abbrev tells_astray : tells_any number ends_astray lines ≡ any_note ends_astray h.notes
  tells_astray = tells ends_astray (record { looks = λ n b. refl; pause = λ t u. refl; parking = λ u. refl; stall = λ k. refl })

  abbrev tells_spent : tells_any number ends_spent lines ≡ any_note ends_spent h.notes
  tells_spent = tells ends_spent (record { looks = λ n b. refl; pause = λ t u. refl; parking = λ u. refl; stall = λ k. refl })

  abbrev tells_unwound : tells_any number ends_unwound lines ≡ any_note ends_unwound h.notes
  tells_unwound = tells ends_unwound (record { looks = λ n b. refl; pause = λ t u. refl; parking = λ u. refl; stall = λ k. refl })

  must_stall : any_note is_end h.notes ≡ false → tells_any number stalls lines ≡ false → ⊥
  must_stall unended calm =
      let others = tells ends_otherwise (record { looks = λ n b. refl; pause = λ t u. refl; parking = λ u. refl; stall = λ k. refl }) in
      not_true (sym (others ∙ none_otherwise h.notes unended) ∙ told_otherwise number lines calm (world.ends number w program going))

  pub ends_or_stalls : EndsOrStalls o (met a) number lines
  ends_or_stalls = by h.story
    where
      by : StoryOrCut o.settings o.program (met a) h.notes → EndsOrStalls o (met a) number lines
      by (unblocked story) = record {
        orderly = tells_astray ∙ orderly_story o (met a) h.fits h.notes story;
        whole = λ b. tells_spent ∙ whole_story o (met a) h.fits h.notes story b;
        unwound = λ e. unwound_story o (met a) h.fits h.notes story (sym tells_unwound ∙ e);
        unwinds = λ calm b p. tells_unwound ∙ unwinds_story o (met a) h.fits h.notes story b p;
      }
      by (waits cost rest le e p) = record {
        orderly = tells_astray ∙ cut_calm o (met a) h.fits ends_astray astray_alone cost h.notes rest e p;
        whole = λ b. tells_spent ∙ cut_calm o (met a) h.fits ends_spent spent_alone cost h.notes rest e p;
        unwound = λ t. absurd (not_true (sym (tells_unwound ∙ cut_calm o (met a) h.fits ends_unwound unwound_alone cost h.notes rest e p) ∙ t));
        unwinds = λ calm b q. absurd (must_stall (cut_unended o (met a) cost h.notes rest e p) calm);
      }
