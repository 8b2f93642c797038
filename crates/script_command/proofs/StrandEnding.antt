-- A call's end, from what was played with strands.
use Rattle.std.proofs.Common.{◌≡◌, ◌⊎◌, inl, inr, ℕ, List, Option, Some, sym, subst}
use Rattle.vault_port.specs.Counts.{FailsOnce}
use Rattle.vault_port.specs.Files.{Files}
use Rattle.vault_port.specs.Told.{Becomes}
use Rattle.vault_port.specs.declared.whole.PutFault.{PutFault}
use Rattle.vault_port.specs.declared.whole.PutFault.TheVariants.{Fault, Memory}
use Rattle.wa_model.specs.declared.answers.Detach.{Detach}
use Rattle.script_model.specs.Script.{strand_line}
use Rattle.event_order.specs.Left.{Counted}
use Rattle.transcript.specs.Refused.{EndsInMemory}
use Rattle.script_command.specs.StrandWorldsTold.{AreStrandsBegun, AreStrandsEnded, AreStrandsTold, NamedStrands, PrintsStrands, PrintsStrandsPart}
use Rattle.script_command.specs.declared.way.Way.{Way}
use Rattle.script_command.specs.Playing.{Play, detaches_in}
use Rattle.script_command.specs.StrandTold.{strands_played}
use Rattle.script_command.specs.Told.{IsBegun, IsTold}
use Rattle.script_command.proofs.Ending.{Told, all_told, by_strands, cut, wanting}
use Rattle.script_command.proofs.StrandToldOf.{strand_told_of}

-- the part that is told, by the fault
pub strand_part_of_fault : (programs : List NamedStrands) (detaches : List Detach) (ds ds' : List Counted) (old new : Option (List ℕ)) (x y : PutFault) → x ≡ y
    → PrintsStrandsPart x programs detaches ds ds' old new → PrintsStrandsPart y programs detaches ds ds' old new
strand_part_of_fault programs detaches ds ds' old new x y e h = subst (λ (z : PutFault). PrintsStrandsPart z programs detaches ds ds' old new) e h

module _ (way : Way) (name : List ℕ) (files : Option Files) (fetched fetched' put put' : ℕ) (ds ds' : List Counted) (play : Play way files name) (detaches : List Detach)
    (same : detaches_in play.whole ≡ detaches) (line : ℕ) (stranded : strand_line play.whole ≡ Some line) where
  abbrev ToldSo : (status : ℕ) → (old new : Option (List ℕ)) → Type 0
  ToldSo status old new = Told way name files fetched fetched' put put' ds ds' play status old new

  told_so : (text : List ℕ) → AreStrandsTold (strands_played play) detaches ds ds' text → IsTold play ds ds' text
  told_so text h =
      by_strands (strand_line play.whole) line _ _ stranded
      (strand_told_of way files name play ds ds' text (subst (λ (l : List Detach). AreStrandsTold (strands_played play) l ds ds' text) (sym same) h))

  begun_so : (fault : PutFault) (least : ℕ) (text : List ℕ) → AreStrandsBegun fault (strands_played play) detaches ds ds' least text ⊎ AreStrandsEnded (strands_played play) detaches ds ds' least text
      → IsBegun fault play ds ds' least text
  begun_so fault least text h = by_strands (strand_line play.whole) line _ _ stranded (elim h [
    | inl begun ↦ inl (subst (λ (l : List Detach). AreStrandsBegun fault (strands_played play) l ds ds' least text) (sym same) begun)
    | inr ended ↦ inr (subst (λ (l : List Detach). AreStrandsEnded (strands_played play) l ds ds' least text) (sym same) ended)
  ])

  pub strands_told : (old new : Option (List ℕ)) → PrintsStrands (strands_played play) detaches ds ds' old new → ToldSo 0 old new
  strands_told old new h = all_told way name files fetched fetched' put put' ds ds' play h.0 (told_so h.0 h.1) old new h.2

  pub strands_cut : (old new : Option (List ℕ)) → FailsOnce put put' → PrintsStrandsPart Fault (strands_played play) detaches ds ds' old new → ToldSo 12 old new
  strands_cut old new failed h = cut way name files fetched fetched' put put' ds ds' play h.0 h.1 (begun_so Fault h.0 h.1 h.2) failed old new h.3

  pub strands_wanting : (old mid new : Option (List ℕ)) (status q : ℕ) → status ≡ 9 → q ≡ put → PrintsStrandsPart Memory (strands_played play) detaches ds ds' old mid → Becomes mid new (EndsInMemory q put')
      → ToldSo status old new
  strands_wanting old mid new status q nine still part h =
      wanting way name files fetched fetched' put put' ds ds' play part.0 part.1 (begun_so Memory part.0 part.1 part.2) old mid new status q nine still part.3 h
