-- How programs over rewritten modules end.
use Rattle.std.proofs.Common.{arith, ◌≡◌, ◌≤◌, ℕ, zero, suc, List, [], ◌∷◌, ◌++◌, length, take, Option, Some, Bool, false, All, refl, sym, ap, ◌∙◌, subst}
use Rattle.std.specs.Prelude.{slice_get}
use Rattle.std.specs.List.{AllZip}
use Rattle.wa_types.specs.Runtime.{global_space}
use Rattle.wa_model.specs.Outside.{Event, shown}
use Rattle.wa_model.specs.Plan.{Outcome, OutcomeFits}
use Rattle.wa_model.specs.Blocking.{Note}
use Rattle.world_model.specs.World.{Actor, BlockingStory, Original, Program, StartsHeld, protocol_story}
use Rattle.world_laws.specs.Originals.{Orderly, met, new_calls}
use Rattle.world_laws.proofs.Meeting.{AnswersFit, EachMet, Met, events_met}
use Rattle.world_laws.proofs.Stories.{stories_of_originals}
use Rattle.world_laws.proofs.Tails.{story_tailed}
use Rattle.world_laws.proofs.Worlds.{take_first}
use Rattle.world_laws.specs.Bounded.{ends_astray}
use Rattle.world_hosting.specs.Worlds.{Part, world_program, world_programs}
use Rattle.world_hosting.specs.Endings.{ToldEnds, ends_spent, ends_unwound, tells_any}
use Rattle.world_hosting.specs.OriginalRuns.{IsRewritten, Source, StaysOff, original_for, originals_for}
use Rattle.world_hosting.proofs.Originals.{may_run, orderly, stands_in}
use Rattle.world_hosting.proofs.StoryEnds.{any_note, events_any, orderly_story, same_events, unwinds_story, unwound_story, whole_story}

-- what its original's story tells
pub record HasStory (o : Original) (a : Actor) : Type 0 where
  pub fits : All OutcomeFits (met a)
  pub notes : List Note
  pub story : BlockingStory o.settings o.program (met a) notes
  pub same : (test : Event → Bool) → any_note test a.notes ≡ any_note test notes

has_story : (x : Source) (y : Part) (a : Actor) → IsRewritten x y → StartsHeld (world_program y) a → Met a → StaysOff (original_for x y) a → HasStory (original_for x y) a
has_story x y a is held meets calm =
    let o : Original = original_for x y in
    let w : Program = world_program y in
    let st = stands_in x y is in
    let may = may_run x y is in
    let fit : AnswersFit a.answers = subst AnswersFit (sym (held.starts.answers ∙ st.answers)) may.answers in
    let t = meets.2 in
    let used : List Outcome = t.0 in
    let rest : List Outcome = meets.0 in
    let in_range = t.3 fit in
    let is_met : met a ≡ used = ap (take (new_calls a.notes)) t.1 ∙ take_first used rest (new_calls a.notes) t.2 in
    let whole_story : a.notes ≡ protocol_story w (used ++ rest) = held.story ∙ ap (protocol_story w) t.1 in
    let few : new_calls (protocol_story w (used ++ rest)) ≤ length used = let e = ap new_calls whole_story in omega (arith, t.2, e) in
    let story : a.notes ≡ protocol_story w used = whole_story ∙ story_tailed w used rest few in
    let enough : new_calls (protocol_story w used) ≤ length used = let e = ap new_calls story in omega (arith, t.2, e) in
    let r = stories_of_originals o w used st may in_range.0 enough (subst (λ (us : List Outcome). Orderly o us) is_met (orderly x y is a calm)) in
    record {
      fits = subst (All OutcomeFits) (sym is_met) in_range.0;
      notes = r.0;
      story = subst (λ (us : List Outcome). BlockingStory o.settings o.program us r.0) (sym is_met) r.1;
      same = λ test. ap (any_note test) story ∙ same_events test (global_space o.program.source) o.program.plan.area r.0 (protocol_story w used) r.2;
    }

story_at : (xs : List Source) (ys : List Part) (acts : List Actor) (i : ℕ) (o : Original) (a : Actor) → AllZip IsRewritten xs ys → AllZip StartsHeld (world_programs ys) acts → EachMet acts
    → slice_get (originals_for xs ys) i ≡ Some o → slice_get acts i ≡ Some a → StaysOff o a → HasStory o a
story_at [] ys acts i o a is held meets e f calm = absurd cc
story_at (x ∷ xs) [] acts i o a is held meets e f calm = absurd is
story_at (x ∷ xs) (y ∷ ys) [] i o a is held meets e f calm = absurd held
story_at (x ∷ xs) (y ∷ ys) (c ∷ acts) zero o a is held meets e f calm =
    let is_o : original_for x y ≡ o = one_original (original_for x y) o e in
    let is_a : c ≡ a = one_actor c a f in
    let off : StaysOff (original_for x y) c = subst (λ (q : Original). StaysOff q c) (sym is_o) (subst (λ (b : Actor). StaysOff o b) (sym is_a) calm) in
    subst (λ (q : Original). HasStory q a) is_o (subst (λ (b : Actor). HasStory (original_for x y) b) is_a (has_story x y c is.0 held.0 meets.0 off))
  where
    one_original : (p q : Original) → Some p ≡ Some q → p ≡ q
    one_original p q e = cc

    one_actor : (p q : Actor) → Some p ≡ Some q → p ≡ q
    one_actor p q e = cc
story_at (x ∷ xs) (y ∷ ys) (c ∷ acts) (suc i) o a is held meets e f calm = story_at xs ys acts i o a is.1 held.1 meets.1 e f calm

pub told_ends : ToldEnds
told_ends sources parts detaches ds ds' lines number o a is world there at calm =
    let programs : List Program = world_programs parts in
    let meets = events_met programs detaches 1 world.actors ds lines world.last ds' world.events world.over in
    let h = story_at sources parts world.actors number o a is world.starts meets there at calm in
    let tells : (test : Event → Bool) → ((n : ℕ) (bytes : Option (List ℕ)) → test (shown n bytes) ≡ false) → tells_any number test lines ≡ any_note test h.notes =
    λ test plain. events_any test plain programs detaches number 1 world.actors world.last ds ds' lines world.events world.over a at ∙ h.same test in
    record {
      orderly = tells ends_astray (λ n b. refl) ∙ orderly_story o (met a) h.fits h.notes h.story;
      whole = λ b. tells ends_spent (λ n bytes. refl) ∙ whole_story o (met a) h.fits h.notes h.story b;
      unwound = λ e. unwound_story o (met a) h.fits h.notes h.story (sym (tells ends_unwound (λ n b. refl)) ∙ e);
      unwinds = λ b p. tells ends_unwound (λ n bytes. refl) ∙ unwinds_story o (met a) h.fits h.notes h.story b p;
    }
