-- The module that the policy `live` emits is its original, rewritten.
use Rattle.std.proofs.Common.{◌≡◌, ◌≤◌, ℕ, ◌+◌, ◌*◌, List, [], length, Option, Some, None, Bool, true, sym, ap}
use Rattle.std.specs.Prelude.{slice_get}
use Rattle.wa_types.specs.Modules.{defined_at}
use Rattle.wa_types.specs.Pausing.{Numbered, Settings, is_told}
use Rattle.wa_types.specs.Syntax.{done, Func, Module}
use Rattle.wa_types.specs.Validity.{Valid}
use Rattle.wa_model.specs.Behaves.{Behaves}
use Rattle.run_theory.specs.Quiet.{FreeOfNames}
use Rattle.run_laws.proofs.BlockingRuns.{well_formed_in}
use Rattle.call_frames.specs.PlainFrames.{SavedParts, frames_of}
use Rattle.guard_runs.specs.Joined.{one_frame}
use Rattle.slim_laws.specs.SlimModule.{Pieces}
use Rattle.headline.specs.EmittedModule.{Emitted, Framing}
use Rattle.emitted_form.specs.CodesHold.{AllCodesHold, AllCodesSmall, codes_size}
use Rattle.emitted_form.specs.EmittedBy.{FrameCode}
use Rattle.emitted_form.proofs.EmittedRewritten.{emitted_valid, rewritten_but_runs}
use Rattle.emitted_form.proofs.EmittedSizes.{emitted_sizes}
use Rattle.emitted_form.proofs.FitsBy.{AllCodesFit, emitted_fits}
use Rattle.emitted_form.proofs.EmittedSo.{HaveCodes, emitted_so}
use Rattle.headline.specs.Given.{BehavesGiven}
use Rattle.headline.proofs.GivenPlans.{behaves_given}
use Rattle.headline.proofs.UnpausedRuns.{runs_unpaused}
use Rattle.emitted_form.specs.ByCallFraming.{framing_by_call}
use Rattle.emitted_form.specs.LiveFraming.{LiveFraming}
use Rattle.emitted_form.proofs.ByCallFramed.{by_call_framed}
use Rattle.emitted_form.proofs.LiveBehaving.{live_emitted_behave}
use Rattle.emitted_form.specs.LiveModuleLaws.{LiveIsRewritten, LiveIsValid, LiveIsWellFormed, LiveKeepsSizes, LiveRewrites, LiveRewriting}
use Rattle.emitted_form.specs.LiveParts.{live_asyncified, live_codes}
use Rattle.emitted_form.proofs.CallCounts.{told_calls}
use Rattle.emitted_form.proofs.LiveHold.{live_few, live_fits, live_hold, live_kept, live_small}

module _ (m : Module) (s : Settings) (which : List Bool) (pieces : (index : ℕ) → Pieces) (parts : (index : ℕ) → SavedParts) (r : LiveRewriting m s which pieces parts) where
  pub hold : AllCodesHold m s which (live_codes pieces parts)
  hold x f is told = live_hold m s which r.valid r.sizes x f (pieces x) (parts x) is (told_calls m s which r.tells x f is told) (r.few x f is told) (r.slim x f is told) (r.live x f is told) r.policy

  pub small : AllCodesSmall m which (live_codes pieces parts)
  small x f is told = live_small m s which r.valid r.sizes x f (pieces x) (parts x) is (told_calls m s which r.tells x f is told) (r.few x f is told) (r.slim x f is told) (r.live x f is told)

  -- the codes of a function are few by how many numbered calls it has
  pub few_codes : (x : ℕ) (f : Func) → defined_at m x ≡ Some f → is_told (slice_get which x) ≡ true → codes_size (live_codes pieces parts x f) ≤ 32 + 1500000 * length (Numbered m s which f)
  few_codes x f is told = live_few m s which r.valid r.sizes x f (pieces x) (parts x) is (told_calls m s which r.tells x f is told) (r.few x f is told) (r.slim x f is told) (r.live x f is told)

  pub fit : AllCodesFit m which (live_codes pieces parts)
  fit x f is told = live_fits m s which r.valid r.sizes x f (pieces x) (parts x) is (told_calls m s which r.tells x f is told) (r.few x f is told) (r.slim x f is told) (r.live x f is told)

  -- ---- its frames

  abbrev framing_of : (index : ℕ) → Pieces → SavedParts → Option Func → Framing
  framing_of x pieces p None = record { pieces = pieces; restoring = done; saving = done; frame_at = λ place. one_frame (record { address = 0; index = 0; scratch = 0; fields = [] }) None }
  framing_of x pieces p (Some f) = framing_by_call m s which x f pieces (frames_of p)

  abbrev pub frames : (index : ℕ) → Framing
  frames x = framing_of x (pieces x) (parts x) (defined_at m x)

  pub frames_are : (x : ℕ) (f : Func) → defined_at m x ≡ Some f → frames x ≡ framing_by_call m s which x f (pieces x) (frames_of (parts x))
  frames_are x f is = ap (framing_of x (pieces x) (parts x)) is

  abbrev code_of : Framing → FrameCode
  code_of z = record { pieces = z.pieces; restoring = z.restoring; saving = z.saving }

  have : HaveCodes m (live_codes pieces parts) frames
  have x f is = ap code_of (sym (frames_are x f is))

  pub framed : LiveFraming m s which frames
  framed x f is told k place at =
      by_call_framed m s which frames x f (pieces x) (frames_of (parts x)) (frames_are x f is)
      (live_kept m s which r.valid r.sizes x f (pieces x) (parts x) is (told_calls m s which r.tells x f is told) (r.few x f is told) (r.slim x f is told) (r.live x f is told)) k place at

  -- ---- the module

  pub live_valid : FreeOfNames m → Valid (live_asyncified m s which pieces parts)
  live_valid free = emitted_valid m s which (live_codes pieces parts) r.valid hold free

  pub live_emitted : FreeOfNames m → Emitted m s which frames (live_asyncified m s which pieces parts)
  live_emitted free = emitted_so m s which (live_codes pieces parts) frames r.valid have hold free r.sizes r.few r.tells

  pub live_given : FreeOfNames m → BehavesGiven m s (live_asyncified m s which pieces parts)
  live_given free wf told tells plan os n cmp pauses =
      live_emitted_behave m s which frames (live_asyncified m s which pieces parts) r.valid (live_valid free)
      (well_formed_in (live_asyncified m s which pieces parts) (emitted_fits m s which (live_codes pieces parts) r.valid wf r.sizes hold fit r.few))
      r.policy r.tells (live_emitted free) framed wf told tells plan os n cmp pauses

  live_behaves : FreeOfNames m → Behaves m s (live_asyncified m s which pieces parts)
  live_behaves free = behaves_given m s (live_asyncified m s which pieces parts) (live_given free)

pub valid_law : LiveIsValid
valid_law m s which pieces parts r free = live_valid m s which pieces parts r free

pub rewritten_law : LiveIsRewritten
rewritten_law m s which pieces parts r free = rewritten_but_runs m s which (live_codes pieces parts) r.valid (hold m s which pieces parts r) r.tells free

pub rewrites_law : LiveRewrites
rewrites_law m s which pieces parts r free = record {
  parts = rewritten_law m s which pieces parts r free;
  behaves = live_behaves m s which pieces parts r free;
  unpaused = runs_unpaused m s (live_asyncified m s which pieces parts) which (live_given m s which pieces parts r free) r.tells;
}

pub sizes_law : LiveKeepsSizes
sizes_law m s which pieces parts r = emitted_sizes m s which (live_codes pieces parts) r.valid r.sizes (hold m s which pieces parts r) (small m s which pieces parts r) r.few

pub well_formed_law : LiveIsWellFormed
well_formed_law m s which pieces parts r wf = emitted_fits m s which (live_codes pieces parts) r.valid wf r.sizes (hold m s which pieces parts r) (fit m s which pieces parts r) r.few
