-- For the policy `live`, the emitted module behaves like its original.
use Rattle.std.proofs.Common.{subst}
use Rattle.run_laws.proofs.BlockingRuns.{base_codes, well_formed_in}
use Rattle.slot_laws.proofs.Closed.{one_list}
use Rattle.headline.specs.Core.{Core, world_of}
use Rattle.headline.specs.Links as N
use Rattle.headline.specs.CoreOf.{RunsBeside, WaitsBeside, core_of}
use Rattle.headline.specs.EmittedModule.{Emitted}
use Rattle.headline.proofs.Behaving.{says_with}
use Rattle.emitted_form.specs.SameLive.{SameLive}
use Rattle.emitted_form.proofs.LiveRelation.{live_stands}
use Rattle.emitted_form.specs.LiveBehaves.{LiveEmittedBehaves}
use Rattle.emitted_form.specs.LiveFraming.{LiveFraming}
use Rattle.emitted_form.proofs.LiveAgain.{live_stacks_stand}

-- THE EMITTED MODULE BEHAVES like its original
pub live_emitted_behave : LiveEmittedBehaves
live_emitted_behave m s told frames p valid written_valid written_codes policy tells0 em0 live0 wf which tells plan os n cmp pauses =
    let same = one_list m s told which tells0 tells in
    let em = subst (λ w. Emitted m s w frames p) same em0 in
    let live = subst (λ w. LiveFraming m s w frames) same live0 in
    let codes = well_formed_in m wf in
    let k : Core = core_of m s which frames plan p in
    says_with m s which frames p valid written_valid codes written_codes tells em plan cmp.given SameLive
    (live_stands (world_of k) (N.W k (RunsBeside m s which frames plan p) (WaitsBeside m s which frames plan p)) policy (λ top i d f l. l.spots))
    (live_stacks_stand m s which frames plan p valid tells em cmp.given (base_codes m codes) policy live) os n cmp pauses
