-- Where nothing has been told, that begins a run of the world.
use Rattle.std.proofs.Common.{◌≡◌, ℕ, List, [], ◌∷◌, length, map, Option, Some, Bool, slice_get, refl, sym, ap, ◌∙◌, subst, arith}
use Rattle.std.specs.Option.{option_map}
use Rattle.std.proofs.lemmas.List.{length-map}
use Rattle.std.proofs.lemmas.Option.{same_Some, slice_get-map, slice_get_within}
use Rattle.wa_model.specs.declared.answers.Detach.{Detach}
use Rattle.world_model.specs.World as W
use Rattle.world_model.specs.World.{Device}
use Rattle.event_order.specs.declared.shows.Show.{Show}
use Rattle.many_host.specs.Turns.{Teller, starting}
use Rattle.world_laws.proofs.Places.{item, zipped}
use Rattle.many_host.specs.ToldNotes.{BeginsWorld, BeginsWorldFrom}
use Rattle.many_host.specs.Notes.{OnStory}
use Rattle.many_host.proofs.WorldBegun.{told_begins}
use Rattle.pause_host.specs.declared.program.Program.{Program}
use Rattle.many_host.specs.declared.hosted.Hosted.{Hosted}
use Rattle.many_host.specs.Hosts.{AreResumed, AreSetUp, dues_left, follows, has_ended}
use Rattle.many_host.specs.Standing.{AllStart}
use Rattle.many_host.proofs.Tellings.{all_resumed, all_start, on_story}

abbrev pub hosted : Program → Hosted
hosted x = record { program = x }

pub unhosted : (xs : List Program) → map (λ (x : Hosted). x.program) (map hosted xs) ≡ xs
unhosted [] = refl
unhosted (x ∷ xs) = ap (λ (l : List Program). x ∷ l) (unhosted xs)

begins_start : (earlier : ℕ) (ws : List W.Program) (shows : List Show) (xs : List Hosted) (dues : List (Option ℕ)) (detaches : List Detach) (ds : List Device)
    → AllStart follows has_ended shows ws xs dues → BeginsWorldFrom earlier ws detaches ds []
begins_start earlier ws shows xs dues detaches ds start =
    told_begins earlier ws detaches ds ds 0 [] (map starting ws) (refl, refl, refl) (zipped OnStory ws (map starting ws) (length-map ws starting) each)
  where
    each : (i : ℕ) (w : W.Program) (t : Teller) → slice_get ws i ≡ Some w → slice_get (map starting ws) i ≡ Some t → OnStory w t
    each i w t ew et =
        let x = item xs i (omega (arith, slice_get_within ws i w ew, start.wide)) in
        let is : starting w ≡ t = same_Some (starting w) t (ap (option_map starting) (sym ew) ∙ sym (slice_get-map starting ws i) ∙ et) in
        subst (OnStory w) is (on_story shows i w (starting w) x.0 (start.each i w x.0 ew x.1))

pub begins_nothing : (ws : List W.Program) (shows : List Show) (xs : List Program) (detaches : List Detach) (ds : List Device) → AreSetUp ws shows xs → BeginsWorld ws detaches ds []
begins_nothing ws shows xs detaches ds set =
    begins_start 0 ws shows (map hosted xs) (map (λ (x : Hosted). Some 0) (map hosted xs)) detaches ds (all_start ws shows (map hosted xs) xs (unhosted xs) set)

-- the same of programs that were put back
pub begins_resumed : (earlier : ℕ) (ws : List W.Program) (shows : List Show) (xs : List Program) (dues : List ℕ) (ended : List Bool) (detaches : List Detach) (ds : List Device)
    → length dues ≡ length xs → length ended ≡ length xs → AreResumed ws shows xs dues ended → BeginsWorldFrom earlier ws detaches ds []
begins_resumed earlier ws shows xs dues ended detaches ds many as_many set =
    begins_start earlier ws shows (map hosted xs) (dues_left dues ended) detaches ds (all_resumed ws shows (map hosted xs) xs dues ended (unhosted xs) many as_many set)
