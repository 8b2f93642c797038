-- What instructions take of all operands, and what they give.
use Rattle.std.proofs.Common.{◌≡◌, ℕ, zero, suc, ◌+◌, ◌-◌, ◌≤◌, ◌++◌, List, [], ◌∷◌, length, reverse, take, drop, slice_get, Option, Some, None, Bool, true, false, refl, subst, arith, ap, sym, ◌∙◌, length-append, length-drop}
use Rattle.std.proofs.lemmas.List.{append_assoc, length-reverse, reverse-append, reverse-reverse, take-append-drop}
use Rattle.std.proofs.Math.Seq.{drop-append_seam}
use Rattle.wa_types.specs.declared.values.ValType.{ValType}
use Rattle.wa_types.specs.declared.values.ValType.TheVariants.{I32}
use Rattle.wa_types.specs.Operators.{operand_types, result_type}
use Rattle.wa_types.specs.Accesses.{load_row, store_row}
use Rattle.wa_types.specs.Syntax.{Basic, nop, drop as a_drop, select, const, num, global_get, global_set, load, store, memory_size, memory_grow, memory_copy, memory_fill, FuncType}
use Rattle.wa_types.specs.Typing.{Around, basic_sig, calls, calls_at, moves, Takes, type_of}
use Rattle.wa_types.specs.Modules.{or_empty}
use Rattle.wa_model.specs.Store.{takes, gives}
use Rattle.run_theory.proofs.FittingActs.{got_moves, set_moves, load_moves, store_moves, memory_moves}
use Rattle.flat_laws.specs.Flatten.{Names, slots}
use Rattle.flat_laws.proofs.GotLemmas.{last_reverse}
use Rattle.flatten.specs.Emitting.{all_of, Given, Changed, HoldsBut}
use Rattle.flatten.specs.Numbers.{bit}
use Rattle.flatten.specs.declared.position.Position.{Position}
use Rattle.flatten.proofs.PositionLemmas.{slots_long, slots_drop}

moved : (ps own mids under : List ValType) → Takes (moves ps []) own mids → Changed (length ps) 0 (own ++ under) (mids ++ under)
moved ps own mids under h =
    let e : own ++ under ≡ ps ++ (h.0 ++ under) = ap (λ z. z ++ under) h.1 ∙ append_assoc ps h.0 under in
    record {
      there = omega (arith, ap length e, length-append ps (h.0 ++ under));
      then_all = ap (λ z. z ++ under) h.2 ∙ sym (ap (drop (length ps)) e ∙ drop-append_seam ps (h.0 ++ under));
    }

moved_one : (ps own mids under : List ValType) (r : ValType) → Takes (moves ps (r ∷ [])) own mids → Changed (length ps) 1 (own ++ under) (mids ++ under)
moved_one ps own mids under r h =
    let e : own ++ under ≡ ps ++ (h.0 ++ under) = ap (λ z. z ++ under) h.1 ∙ append_assoc ps h.0 under in
    record {
      there = omega (arith, ap length e, length-append ps (h.0 ++ under));
      then_all = (r, ap (λ z. z ++ under) h.2 ∙ ap (λ z. r ∷ z) (sym (ap (drop (length ps)) e ∙ drop-append_seam ps (h.0 ++ under))));
    }

pub basic_changed : (c : Around) (b : Basic) (own mids under : List ValType) → Takes (basic_sig c b) own mids → Changed (takes b) (gives b) (own ++ under) (mids ++ under)
basic_changed c nop own mids under h = moved [] own mids under h
basic_changed c a_drop own mids under h = moved (h.0 ∷ []) own mids under (mids, h.1, refl)
basic_changed c select own mids under h = moved_one (I32 ∷ h.0 ∷ h.0 ∷ []) own mids under h.0 (h.1, h.2, h.3)
basic_changed c (const v) own mids under h = moved_one [] own mids under (type_of v) h
basic_changed c (num op) own mids under h = moved_one (operand_types op) own mids under (result_type op) h
basic_changed c (global_get x) own mids under h = let r = got_moves (slice_get c.globals x) own mids h in moved_one [] own mids under r.0.ty r.2
basic_changed c (global_set x) own mids under h = let r = set_moves (slice_get c.globals x) own mids h in moved (r.0.ty ∷ []) own mids under r.2
basic_changed c (load op align offset) own mids under h = let r = load_moves c.memory align (load_row op) own mids h in moved_one (I32 ∷ []) own mids under r.0.ty r.2
basic_changed c (store op align offset) own mids under h = let r = store_moves c.memory align (store_row op) own mids h in moved (r.0.ty ∷ I32 ∷ []) own mids under r.2
basic_changed c memory_size own mids under h = moved_one [] own mids under I32 (memory_moves c.memory [] (I32 ∷ []) own mids h)
basic_changed c memory_grow own mids under h = moved_one (I32 ∷ []) own mids under I32 (memory_moves c.memory (I32 ∷ []) (I32 ∷ []) own mids h)
basic_changed c memory_copy own mids under h = moved (I32 ∷ I32 ∷ I32 ∷ []) own mids under (memory_moves c.memory (I32 ∷ I32 ∷ I32 ∷ []) [] own mids h)
basic_changed c memory_fill own mids under h = moved (I32 ∷ I32 ∷ I32 ∷ []) own mids under (memory_moves c.memory (I32 ∷ I32 ∷ I32 ∷ []) [] own mids h)

-- calls
by_results : (ps own mids under : List ValType) (rs : List ValType) → length rs ≤ 1 → Takes (moves ps (reverse rs)) own mids → Changed (length ps) (length rs) (own ++ under) (mids ++ under)
by_results ps own mids under [] le h = moved ps own mids under h
by_results ps own mids under (r ∷ []) le h = moved_one ps own mids under r h
by_results ps own mids under (r ∷ s ∷ rs) le h = absurd (omega arith)

pub call_changed : (o : Option FuncType) (own mids under : List ValType) → length (or_empty o).results ≤ 1 → Takes (calls o) own mids
    → Changed (length (or_empty o).params) (length (or_empty o).results) (own ++ under) (mids ++ under)
call_changed None own mids under le h = absurd h
call_changed (Some t) own mids under le h =
    subst (λ k. Changed k (length t.results) (own ++ under) (mids ++ under)) (length-reverse t.params) (by_results (reverse t.params) own mids under t.results le h)

pub table_changed : (table : Bool) (o : Option FuncType) (own mids under : List ValType) → length (or_empty o).results ≤ 1 → Takes (calls_at table o) own mids
    → Changed (suc (length (or_empty o).params)) (length (or_empty o).results) (own ++ under) (mids ++ under)
table_changed table None own mids under le h = absurd h
table_changed false (Some t) own mids under le h = absurd h
table_changed true (Some t) own mids under le h =
    subst (λ k. Changed (suc k) (length t.results) (own ++ under) (mids ++ under)) (length-reverse t.params) (by_results (I32 ∷ reverse t.params) own mids under t.results le h)

-- ---- slots

pub kept_reversed : {X : Type 0} (kept k : ℕ) (ss : List X) → kept + k ≡ length ss → reverse (take kept ss) ≡ drop k (reverse ss)
kept_reversed kept k ss e =
    let a = reverse (drop kept ss) in
    let b = reverse (take kept ss) in
    let all : reverse ss ≡ a ++ b = ap reverse (sym (take-append-drop kept ss)) ∙ reverse-append (take kept ss) (drop kept ss) in
    let len : k ≡ length a = omega (arith, length-reverse (drop kept ss), length-drop kept ss) in
    sym (ap (drop k) all ∙ ap (λ j. drop j (a ++ b)) len ∙ drop-append_seam a b)

given_length : (g : ℕ) (new rest : List ValType) → g ≤ 1 → Given g new rest → length new ≡ length rest + g
given_length zero new rest le h = omega (arith, ap length h)
given_length (suc g) new rest le h = omega (arith, ap length h.1)

module _ (n : Names) (k g : ℕ) (all new : List ValType) (c : Changed k g all new) (few : g ≤ 1) (ss : List ℕ) (held : reverse ss ≡ slots n all) where
  pub ss_long : length ss ≡ length all
  ss_long = sym (length-reverse ss) ∙ ap length held ∙ slots_long n all

  pub new_long : length new + k ≡ length all + g
  new_long = let there = c.there in omega (arith, given_length g new (drop k all) few c.then_all, length-drop k all)

  -- those that stay
  pub kept_slots : (kept : ℕ) → kept + k ≡ length ss → reverse (take kept ss) ≡ slots n (drop k all)
  kept_slots kept e =
      kept_reversed kept k ss e ∙ ap (drop k) held ∙ slots_drop n k all

  -- those that are taken, the deepest first
  pub taken_slots : (kept : ℕ) → kept + k ≡ length ss → drop kept ss ≡ reverse (take k (slots n all))
  taken_slots kept e =
      let xs : List ℕ = slots n all in
      let all_is : ss ≡ reverse xs = sym (reverse-reverse ss) ∙ ap reverse held in
      let len : length (reverse xs) - k ≡ kept = omega (arith, ap length all_is) in
      ap (drop kept) all_is ∙ ap (λ j. drop j (reverse xs)) (sym len) ∙ last_reverse k xs (omega (arith, length-reverse xs, ap length all_is))

-- the operands' slots, but for what an instruction has just given
pub holds_but : (g : Bool) (n : Names) (p : Position) (all rest : List ValType) → all_of p.typing ≡ all → Given (bit g) all rest → reverse p.slots.items ≡ slots n rest → HoldsBut g n p
holds_but true n p all rest e h held = (h.0, rest, e ∙ h.1, held)
holds_but false n p all rest e h held = held ∙ ap (slots n) (sym (e ∙ h))

pub bit_few : (g : Bool) (k : ℕ) → bit g ≡ k → k ≤ 1
bit_few true k e = omega (arith, e)
bit_few false k e = omega (arith, e)
