-- Items of tables, as they were found.
use Rattle.std.proofs.Common.{◌≡◌, ◌<◌, ◌≤◌, ◌+◌, ◌++◌, ℕ, List, [], ◌∷◌, take, get_or, Bool, true, false, cond, All, arith, map, length, Some, None, refl, sym, ap, ◌∙◌, subst}
use Rattle.std.specs.Prelude.{slice_get, slice_index_or, nat_eq, nat_lt, MatchBool}
use Rattle.std.proofs.lemmas.Bool.Decides.{nat_tests}
use Rattle.std.proofs.lemmas.List.{map_more, take_all}
use Rattle.wa_types.specs.Memory.{overwritten}
use Rattle.wa_model.specs.declared.answers.Poke.{Poke as PokeValue}
use Rattle.wa_model.specs.Outside.{Poke, Answer, AnswerLine}
use Rattle.wa_model.specs.Store.{Store, with_memory}
use Rattle.wa_model.specs.Blocking.{poked, poked_memory}
use Rattle.wa_model.specs.View.{poke_of}
use Rattle.std.specs.Option.{option_map, unwrap_or}
use Rattle.std.proofs.lemmas.Option.{slice_get-get_or, slice_get_read, slice_get-map}
use Rattle.std.proofs.lemmas.List.Elements.{All-head}
use Rattle.wa_types.specs.Syntax.{Module}
use Rattle.wa_types.specs.Modules.{all_memories}
use Rattle.wa_types.specs.Validity.{same_name}
use Rattle.wa_model.specs.declared.events.End.TheVariants.{NoAnswer, OtherImport}
use Rattle.wa_model.specs.Plan.{given, refused}
use Rattle.interp.specs.Host.{memory_of}
use Rattle.host_laws.specs.Answering.{IsShort}
use Rattle.world_model.specs.World.{Program, import_names, name_at, MeetsLine}
use Rattle.pause_host.specs.declared.stages.HostImport.{HostImport}
use Rattle.pause_host.specs.declared.stages.Setting.{Setting}
use Rattle.pause_host.specs.Moves.{IsSetting, HasShortPokes}

-- what is read at a place stands there
pub stands_at : {X : Type 0} (xs : List X) (i : ℕ) (x : X) → i < length xs → x ≡ get_or xs i x → slice_get xs i ≡ Some x
stands_at {X} xs i x lt is = slice_get-get_or xs i x lt ∙ ap (λ (y : X). Some y) (sym is)

pub found_at : {X : Type 0} (xs ys : List X) (i : ℕ) (x : X) → xs ≡ ys → i < length xs → x ≡ slice_index_or xs i x → slice_get ys i ≡ Some x
found_at xs ys i x e lt at = ap (λ zs. slice_get zs i) (sym e) ∙ slice_get_read xs (length xs) i x refl lt at

pub eq_true : (a b : ℕ) → a ≡ b → nat_eq a b ≡ true
eq_true a b e = grind (arith, nat_tests)

pub ne_false : (a b : ℕ) → (a ≡ b → ⊥) → nat_eq a b ≡ false
ne_false a b ne = grind (arith, nat_tests)

-- ---- pokes in order

memory_more : (m : List ℕ) (ps : List Poke) (p : Poke) → poked_memory m (ps ++ p ∷ []) ≡ overwritten (poked_memory m ps) p.at p.bytes
memory_more m [] p = refl
memory_more m (q ∷ ps) p = memory_more (overwritten m q.at q.bytes) ps p

-- one more
pub poked_more : (s now new : Store) (ps : List PokeValue) (i : ℕ) (p : PokeValue) → i < length ps → p ≡ get_or ps i p → now ≡ poked s (map poke_of (take i ps))
    → new ≡ with_memory now (overwritten now.memory p.at p.bytes.items)
    → new ≡ poked s (map poke_of (take (i + 1) ps))
poked_more s now new ps i p lt at before e =
    let more = map_more poke_of ps i p lt in
    e ∙ ap (λ z. with_memory z (overwritten z.memory p.at p.bytes.items)) before
    ∙ ap (with_memory s) (sym (memory_more s.memory (map poke_of (take i ps)) (poke_of p)))
    ∙ ap (λ q. poked s (map poke_of (take i ps) ++ poke_of q ∷ [])) at
    ∙ ap (poked s) (sym more)

pub poked_all : (s now : Store) (ps : List PokeValue) (i : ℕ) → length ps ≤ i → now ≡ poked s (map poke_of (take i ps)) → now ≡ poked s (map poke_of ps)
poked_all s now ps i h e = e ∙ ap (λ z. poked s (map poke_of z)) (take_all i ps h)

-- ---- a call's import and its answer

pub name_told : (w : Program) (x : Setting) (import : ℕ) (i : HostImport) → IsSetting w x → slice_get x.imports.items import ≡ Some i → i.name ≡ name_at (import_names w.source) import
name_told w x import i is at =
    sym (ap (λ ns. name_at ns import) is.names ∙ ap (λ o. unwrap_or o []) (slice_get-map (λ (j : HostImport). j.name) x.imports.items import ∙ ap (option_map (λ (j : HostImport). j.name)) at))

-- the bytes of the memory, where there is one
pub size_told : (w : Program) (x : Setting) (m : Module) (s : Store) (bytes : List ℕ) → IsSetting w x → m ≡ w.source → Some bytes ≡ memory_of m s → length s.memory ≡ length bytes
size_told w x m s bytes is code e = by_test (nat_lt 0 (length (all_memories m))) (ap (λ z. nat_lt 0 (length (all_memories z))) code ∙ is.memory) e
  where
    by_test : (b : Bool) → b ≡ true → Some bytes ≡ cond b (Some s.memory) None → length s.memory ≡ length bytes
    by_test true z h = let same : bytes ≡ s.memory = cc in ap length (sym same)
    by_test false z h = cc

-- an answer of a line that has short pokes has short pokes
pub short_given : (import : ℕ) (name : List ℕ) (lines : List AnswerLine) (a : Answer) (lines' : List AnswerLine) → MeetsLine import name lines (given a) lines' → All HasShortPokes lines
    → All IsShort a.pokes
short_given import name [] a lines' m h = let z : given a ≡ refused (NoAnswer import) = m.0 in cc
short_given import name (l ∷ ls) a lines' m h = by_name (same_name l.import name) m
  where
    by_name : (b : Bool) → MatchBool b ((given a ≡ given l.answer) × (lines' ≡ ls)) ((given a ≡ refused (OtherImport import l.import)) × (lines' ≡ l ∷ ls)) → All IsShort a.pokes
    by_name true k = let z : given a ≡ given l.answer = k.0 in let same : l.answer ≡ a = cc in subst (λ (y : Answer). All IsShort y.pokes) same (All-head HasShortPokes l ls h)
    by_name false k = let z : given a ≡ refused (OtherImport import l.import) = k.0 in cc
