-- The ends that tests of an answer make, and those of a failed instantiation: what holds of each holds of whichever comes.
use Rattle.std.proofs.Common.{◌≡◌, ℕ, zero, suc, ◌*◌, List, [], ◌∷◌, length, map, replicate, Option, Some, None, Bool, true, false, refl}
use Rattle.std.specs.Prelude.{nat_lt, if◌then◌else◌}
use Rattle.wa_types.specs.declared.values.ValType.{ValType}
use Rattle.wa_types.specs.declared.values.Value.{Value}
use Rattle.wa_types.specs.Syntax.{Module}
use Rattle.wa_types.specs.Memory.{page_size}
use Rattle.wa_types.specs.Modules.{all_memories, all_tables}
use Rattle.wa_model.specs.declared.answers.Area.{Area}
use Rattle.wa_model.specs.declared.answers.Said.{Said}
use Rattle.wa_model.specs.declared.answers.Said.TheVariants as S
use Rattle.wa_model.specs.declared.events.End.{End}
use Rattle.wa_model.specs.declared.events.End.TheVariants.{BadAnswer, BadPoke, PauseInStart, UnlistedPause, HostLimit, ElementsOut, BytesOut}
use Rattle.wa_model.specs.Outside.{Poke, Answer}
use Rattle.wa_model.specs.Plan.{Plan}
use Rattle.wa_model.specs.Blocking.{answers, bad_value, poke_fits, bad_poke, is_unlisted, bad_pause, or_else, fault_of}
use Rattle.wa_model.specs.Instantiation.{Piece, elem_piece, byte_piece, first_out, all_values, least_of, bytes_checked, elems_checked, opened_by, Opening, fails_as, opens, opening}

-- ---- tests of an answer

-- the end, where there is one, is of this kind
abbrev pub EndIs : (End → Type 0) → Option End → Type 0
EndIs P None = Unit {0}
EndIs P (Some e) = P e

-- the ends of an answer's tests are of this kind, but for the pause of an unlisted import
pub record OfTests (P : End → Type 0) : Type 0 where
  pub value : (import : ℕ) (v : Option Value) → P (BadAnswer import v)
  pub poke : (at len : ℕ) → P (BadPoke at len)
  pub start : (import : ℕ) → P (PauseInStart import)

module _ (P : End → Type 0) (each : OfTests P) where
  value_is : (types : List ValType) (i : ℕ) (said : Said) → EndIs P (bad_value types i said)
  value_is types i (S.Value v) = by (answers types v)
    where
      by : (b : Bool) → EndIs P (if b then None else Some (BadAnswer i v))
      by true = tt
      by false = each.value i v
  value_is types i S.Trap = tt

  pokes_are : (size : ℕ) (areas : List Area) (ps : List Poke) → EndIs P (bad_poke size areas ps)
  pokes_are size areas [] = tt
  pokes_are size areas (p ∷ ps) = by (poke_fits size areas p) (pokes_are size areas ps)
    where
      by : (b : Bool) → EndIs P (bad_poke size areas ps) → EndIs P (if b then bad_poke size areas ps else Some (BadPoke p.at (length p.bytes)))
      by true h = h
      by false h = each.poke p.at (length p.bytes)

  pause_is : (start unlisted : Bool) (i ticks : ℕ) → (unlisted ≡ true → P (UnlistedPause i)) → EndIs P (bad_pause start unlisted i ticks)
  pause_is start unlisted i zero h = tt
  pause_is true unlisted i (suc ticks) h = each.start i
  pause_is false true i (suc ticks) h = h refl
  pause_is false false i (suc ticks) h = tt

  else_is : (a b : Option End) → EndIs P a → EndIs P b → EndIs P (or_else a b)
  else_is None b x y = y
  else_is (Some e) b x y = x

  pub fault_is : (types : List ValType) (size : ℕ) (plan : Plan) (start : Bool) (i : ℕ) (a : Answer) → (is_unlisted plan.listed i ≡ true → P (UnlistedPause i))
      → EndIs P (fault_of types size plan start i a)
  fault_is types size plan start i a h =
      else_is (bad_value types i a.said) (or_else (bad_poke size (plan.area ∷ plan.others) a.pokes) (bad_pause start (is_unlisted plan.listed i) i a.ticks)) (value_is types i a.said)
      (else_is (bad_poke size (plan.area ∷ plan.others) a.pokes) (bad_pause start (is_unlisted plan.listed i) i a.ticks) (pokes_are size (plan.area ∷ plan.others) a.pokes)
      (pause_is start (is_unlisted plan.listed i) i a.ticks h))

-- ---- instantiation

-- the end of a failed instantiation is of this kind
abbrev pub OpeningIs : (End → Type 0) → Opening → Type 0
OpeningIs P (fails_as e) = P e
OpeningIs P (opens s) = Unit {0}

-- the ends of instantiation are of this kind
pub record OfOpenings (P : End → Type 0) : Type 0 where
  pub limit : (entries : Bool) (found : ℕ) → P (HostLimit entries found)
  pub elements : (i : ℕ) → P (ElementsOut i)
  pub bytes : (i : ℕ) → P (BytesOut i)

module _ (P : End → Type 0) (each : OfOpenings P) where
  bytes_are : (globals : List Value) (memory : List ℕ) (table : List (Option ℕ)) (elems : List (Piece (Option ℕ))) (bytes : List (Piece ℕ)) (o : Option ℕ)
      → OpeningIs P (bytes_checked globals memory table elems bytes o)
  bytes_are globals memory table elems bytes None = tt
  bytes_are globals memory table elems bytes (Some i) = each.bytes i

  elems_are : (globals : List Value) (memory : List ℕ) (table : List (Option ℕ)) (elems : List (Piece (Option ℕ))) (bytes : List (Piece ℕ)) (o : Option ℕ)
      → OpeningIs P (elems_checked globals memory table elems bytes o)
  elems_are globals memory table elems bytes None = bytes_are globals memory table elems bytes (first_out (length memory) 0 bytes)
  elems_are globals memory table elems bytes (Some i) = each.elements i

  opened_is : (m : Module) (globals : List Value) (pages entries : ℕ) (a b : Bool) → OpeningIs P (opened_by m globals pages entries a b)
  opened_is m globals pages entries true b = each.limit false pages
  opened_is m globals pages entries false true = each.limit true entries
  opened_is m globals pages entries false false =
      elems_are globals (replicate (pages * page_size) 0) (replicate entries None) (map (elem_piece globals) m.elems) (map (byte_piece globals) m.segments)
      (first_out (length (replicate entries None)) 0 (map (elem_piece globals) m.elems))

  pub opening_is : (m : Module) (imports : List Value) → OpeningIs P (opening m imports)
  opening_is m imports =
      opened_is m (all_values imports m) (least_of (all_memories m)) (least_of (all_tables m)) (nat_lt 1024 (least_of (all_memories m))) (nat_lt 100000 (least_of (all_tables m)))
