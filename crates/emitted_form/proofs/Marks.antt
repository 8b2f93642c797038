-- What written code has of flat code: its calls, in order, and the lists of its branch tables.
use Rattle.std.proofs.Common.{◌≡◌, ◌∙◌, ℕ, zero, suc, ◌+◌, ◌<◌, List, [], ◌∷◌, ◌++◌, length, Option, Some, None, Bool, true, false, refl, sym, ap, append_assoc}
use Rattle.std.proofs.lemmas.List.{append-nil, length-map}
use Rattle.wa_types.specs.declared.values.ValType.{ValType}
use Rattle.wa_types.specs.declared.values.ValType.TheVariants.{I32, I64}
use Rattle.wa_types.specs.declared.values.Value.TheVariants as V
use Rattle.wa_types.specs.Syntax.{Basic, const, num, global_get, load, store, basic, local_get, local_set, local_tee, br, br_if, br_table, return, unreachable, call, call_indirect, Plain, a_block, a_loop, Code, done, plain, nest, branch}
use Rattle.wa_types.specs.declared.operators.NumOp.TheVariants.{I32Ne, I32LtU, I32Add, I32Sub}
use Rattle.wa_types.specs.Pausing.{Callee, callee, callee_onto, calls_of}
use Rattle.wa_types.specs.Sizes.{plain_lists, code_lists}
use Rattle.wa_model.specs.declared.flat.Operand.{Operand}
use Rattle.wa_model.specs.declared.flat.Operand.TheVariants.{Local, Const}
use Rattle.run_theory.specs.Flat.{followed_by, got, set_to, slots_got, result_got}
use Rattle.run_theory.specs.Growth.{Each}
use Rattle.local_spill.specs.declared.frames.Place.{Place}
use Rattle.local_spill.specs.Spilling.{SpillIndices, location_of, room_tested, stored_value, loaded_value, locals_stored, locals_loaded, saving, restoring}
use Rattle.wa_model.specs.Step.{zero_of}
use Rattle.wa_model.specs.Store.{gives}
use Rattle.frame_laws.specs.Function.{value_code}
use Rattle.slim_laws.specs.Slim as S
use Rattle.slim_laws.specs.Slim.{Free, Slims, Terms}
use Rattle.guard_form.specs.Pieces.{Units, no_unit, call_unit, nest_unit, if_unit, any_unit, numbers_in, call_to, got_any, flat_units}
use Rattle.guard_form.specs.Guarded.{raise, raised_plain, raised, GuardIndices, by_state, index_with, guarded, sought, one_more, index_noted, noted, ends_too, call_guarded, choice, arm, Exit, its_end, by_label, nowhere, function_end, exit_inside, last_piece}
use Rattle.guard_form.specs.Guarded.{call_front, front, sought_first, call_entry, entry, guarded_body, block_unit, written_body}

-- ---- marks

-- Marks of single instructions, where only calls, branch tables and what isn't in guards have any, whatever their labels.
pub record Marking (X : Type 0) : Type 0 where
  pub marks : Plain → List X
  pub on_basic : (b : Basic) → marks (basic b) ≡ []
  pub on_get : (x : ℕ) → marks (local_get x) ≡ []
  pub on_set : (x : ℕ) → marks (local_set x) ≡ []
  pub on_tee : (x : ℕ) → marks (local_tee x) ≡ []
  pub on_stop : marks unreachable ≡ []
  pub on_return : marks return ≡ []
  pub on_br_if : (l : ℕ) → marks (br_if l) ≡ []
  pub on_raised : (d n : ℕ) (p : Plain) → marks (raised_plain d n p) ≡ marks p

module _ {X : Type 0} (k : Marking X) where
  -- those of code, in order
  abbrev pub marks_of : Code → List X
  marks_of done = []
  marks_of (plain p rest) = k.marks p ++ marks_of rest
  marks_of (nest s r body rest) = marks_of body ++ marks_of rest
  marks_of (branch r a b rest) = marks_of a ++ marks_of b ++ marks_of rest

  unmarked : (p : Plain) (c : Code) → k.marks p ≡ [] → marks_of (plain p c) ≡ marks_of c
  unmarked p c e = ap (λ xs. xs ++ marks_of c) e

  pub marks_then : (a b : Code) → marks_of (followed_by a b) ≡ marks_of a ++ marks_of b
  unfolding followed_by
  marks_then done b = refl
  marks_then (plain p c) b = ap (λ z. k.marks p ++ z) (marks_then c b) ∙ sym (append_assoc (k.marks p) (marks_of c) (marks_of b))
  marks_then (nest s t y c) b = ap (λ z. marks_of y ++ z) (marks_then c b) ∙ sym (append_assoc (marks_of y) (marks_of c) (marks_of b))
  marks_then (branch t y z c) b = ap (λ u. marks_of y ++ marks_of z ++ u) (marks_then c b) ∙ sym (append_assoc (marks_of y ++ marks_of z) (marks_of c) (marks_of b))

  marks_raised : (d n : ℕ) (c : Code) → marks_of (raised d n c) ≡ marks_of c
  marks_raised d n done = refl
  marks_raised d n (plain p c) = ap (λ xs. xs ++ marks_of (raised d n c)) (k.on_raised d n p) ∙ ap (λ xs. k.marks p ++ xs) (marks_raised d n c)
  marks_raised d n (nest s r a c) = ap (λ xs. xs ++ marks_of (raised d n c)) (marks_raised (suc d) n a) ∙ ap (λ xs. marks_of a ++ xs) (marks_raised d n c)
  marks_raised d n (branch r a b c) =
      ap (λ xs. xs ++ marks_of (raised (suc d) n b) ++ marks_of (raised d n c)) (marks_raised (suc d) n a)
      ∙ ap (λ xs. marks_of a ++ xs ++ marks_of (raised d n c)) (marks_raised (suc d) n b)
      ∙ ap (λ xs. marks_of a ++ marks_of b ++ xs) (marks_raised d n c)

  marks_slots : (xs : List ℕ) (c : Code) → marks_of (slots_got xs c) ≡ marks_of c
  marks_slots [] c = refl
  marks_slots (x ∷ xs) c = unmarked (local_get x) (slots_got xs c) (k.on_get x) ∙ marks_slots xs c

  marks_set : (to : Option ℕ) (c : Code) → marks_of (set_to to c) ≡ marks_of c
  marks_set None c = refl
  marks_set (Some x) c = unmarked (local_set x) c (k.on_set x)

  marks_got : (o : Operand) (c : Code) → marks_of (got o c) ≡ marks_of c
  marks_got (Local x) c = unmarked (local_get x) c (k.on_get x)
  marks_got (Const v) c = unmarked (basic (const v)) c (k.on_basic (const v))

  marks_any : (o : Option Operand) (c : Code) → marks_of (got_any o c) ≡ marks_of c
  marks_any None c = refl
  marks_any (Some o) c = marks_got o c

  -- slim code has the marks of the code beside it
  pub marks_slim : (t : Terms) (n : ℕ) (ts : List Free) (out f : Free) (sh : S.StackShape) (code code' : Code) → Slims t n ts out f sh code code' → marks_of code' ≡ marks_of code
  marks_slim t n ts out f sh _ _ (S.ends co pl) = refl
  marks_slim t n ts out f sh _ _ (S.does {sh2 = sh2} {rest = rest} {rest' = rest'} b ta sl) = ap (λ z. k.marks (basic b) ++ z) (marks_slim t n ts out f (S.more (gives b) sh2) rest rest' sl)
  marks_slim t n ts out f sh _ _ (S.gets {rest = rest} {rest' = rest'} x fr sl) = ap (λ z. k.marks (local_get x) ++ z) (marks_slim t n ts out f (None ∷ sh) rest rest' sl)
  marks_slim t n ts out f sh _ _ (S.sets {sh2 = sh2} {rest = rest} {rest' = rest'} x g co ta la sl) = ap (λ z. k.marks (local_set x) ++ z) (marks_slim t n ts out g sh2 rest rest' sl)
  marks_slim t n ts out f sh _ _ (S.tees {sh2 = sh2} {rest = rest} {rest' = rest'} x g co ta la sl) = ap (λ z. k.marks (local_tee x) ++ z) (marks_slim t n ts out g (None ∷ sh2) rest rest' sl)
  marks_slim t n ts out f sh _ code' (S.keeps {sh2 = sh2} {rest = rest} x g is lt co gx ta la sl) =
      marks_slim t n ts out g (Some x ∷ sh2) rest code' sl ∙ sym (unmarked (local_set x) rest (k.on_set x))
  marks_slim t n ts out f sh _ code' (S.uses {sh2 = sh2} {rest = rest} x is ri sl) = marks_slim t n ts out f sh2 rest code' sl ∙ sym (unmarked (local_get x) rest (k.on_get x))
  marks_slim t n ts out f _ _ _ (S.copies {sh = sh} {rest = rest} {rest' = rest'} x y g is co la sl) =
      unmarked (local_tee y) rest' (k.on_tee y) ∙ marks_slim t n ts out g (Some x ∷ sh) rest rest' sl ∙ sym (unmarked (local_set y) rest (k.on_set y))
      ∙ sym (unmarked (local_get x) (plain (local_set y) rest) (k.on_get x))
  marks_slim t n ts out f _ code _ (S.saves {sh = sh} {code' = code'} x g lt co sl) = unmarked (local_set x) code' (k.on_set x) ∙ marks_slim t n ts out g sh code code' sl
  marks_slim t n ts out f sh code code' (S.narrows g co sl) = marks_slim t n ts out g sh code code' sl
  marks_slim t n ts out f sh code code' (S.forgets pl sl) = marks_slim t n ts out f [] code code' sl
  marks_slim t n ts out f sh _ _ (S.leaps l pl re) = refl
  marks_slim t n ts out f sh _ _ (S.leaps_if {rest = rest} {rest' = rest'} l pl re sl) = ap (λ z. k.marks (br_if l) ++ z) (marks_slim t n ts out f [] rest rest' sl)
  marks_slim t n ts out f sh _ _ (S.leaps_by es l pl re) = refl
  marks_slim t n ts out f sh _ _ (S.returns_here pl) = refl
  marks_slim t n ts out f sh _ _ S.halts = refl
  marks_slim t n ts out f sh _ _ (S.calls {rest = rest} {rest' = rest'} x pl ac sl) = ap (λ z. k.marks (call x) ++ z) (marks_slim t n ts out f [] rest rest' sl)
  marks_slim t n ts out f sh _ _ (S.calls_by {rest = rest} {rest' = rest'} x pl ac sl) = ap (λ z. k.marks (call_indirect x) ++ z) (marks_slim t n ts out f [] rest rest' sl)
  marks_slim t n ts out f sh _ _ (S.blocks {body = body} {body' = body'} {rest = rest} {rest' = rest'} r g pl sb sl) =
      ap (λ z. z ++ marks_of rest') (marks_slim t _ (g ∷ ts) g f [] body body' sb) ∙ ap (λ z. marks_of body ++ z) (marks_slim t n ts out g [] rest rest' sl)
  marks_slim t n ts out f sh _ _ (S.loops {body = body} {body' = body'} {rest = rest} {rest' = rest'} r head g pl co sb sl) =
      ap (λ z. z ++ marks_of rest') (marks_slim t _ (head ∷ ts) g head [] body body' sb) ∙ ap (λ z. marks_of body ++ z) (marks_slim t n ts out g [] rest rest' sl)
  marks_slim t n ts out f sh _ _ (S.decides {a = a} {a' = a'} {b = b} {b' = b'} {rest = rest} {rest' = rest'} r g pl sa sb sl) =
      ap (λ z. z ++ marks_of b' ++ marks_of rest') (marks_slim t _ (g ∷ ts) g f [] a a' sa) ∙ ap (λ z. marks_of a ++ z ++ marks_of rest') (marks_slim t _ (g ∷ ts) g f [] b b' sb)
      ∙ ap (λ z. marks_of a ++ marks_of b ++ z) (marks_slim t n ts out g [] rest rest' sl)

  -- ---- guards

  module _ (i : GuardIndices) where
    marks_state : (a b c : Code) → marks_of (by_state i.state a b c) ≡ marks_of a ++ marks_of b ++ marks_of c
    marks_state a b c = unmarked (basic (global_get i.state)) (branch None a b c) (k.on_basic (global_get i.state))

    marks_guarded : (a c : Code) → marks_of (guarded i a c) ≡ marks_of a ++ marks_of c
    marks_guarded done c = refl
    marks_guarded (plain p r) c = marks_state done (raised 0 1 (plain p r)) c ∙ ap (λ xs. xs ++ marks_of c) (marks_raised 0 1 (plain p r))
    marks_guarded (nest s t y r) c = marks_state done (raised 0 1 (nest s t y r)) c ∙ ap (λ xs. xs ++ marks_of c) (marks_raised 0 1 (nest s t y r))
    marks_guarded (branch t y z r) c = marks_state done (raised 0 1 (branch t y z r)) c ∙ ap (λ xs. xs ++ marks_of c) (marks_raised 0 1 (branch t y z r))

    marks_index : (n : ℕ) (b : Basic) (c : Code) → marks_of (index_with i (basic b) n c) ≡ marks_of c
    marks_index n b c =
        unmarked (local_get i.index) (plain (basic (const (V.I32 n))) (plain (basic b) c)) (k.on_get i.index)
        ∙ unmarked (basic (const (V.I32 n))) (plain (basic b) c) (k.on_basic (const (V.I32 n)))
        ∙ unmarked (basic b) c (k.on_basic b)

    marks_sought : (l m n : ℕ) (a c : Code) → marks_of (sought i l m n a c) ≡ marks_of a ++ marks_of c
    marks_sought l m n a c =
        marks_state (index_with i (basic (num I32Ne)) n (plain (br_if l) done)) (raised 0 m a) c
        ∙ ap (λ xs. xs ++ marks_of (raised 0 m a) ++ marks_of c) (marks_index n (num I32Ne) (plain (br_if l) done) ∙ unmarked (br_if l) done (k.on_br_if l))
        ∙ ap (λ xs. xs ++ marks_of c) (marks_raised 0 m a)

    index_set : (n : ℕ) (c : Code) → marks_of (plain (basic (const (V.I32 n))) (plain (local_set i.index) c)) ≡ marks_of c
    index_set n c =
        unmarked (basic (const (V.I32 n))) (plain (local_set i.index) c) (k.on_basic (const (V.I32 n)))
        ∙ unmarked (local_set i.index) c (k.on_set i.index)

    index_unmarked : (unnoted : Bool) (n : ℕ) (c : Code) → marks_of (index_noted unnoted i.index n c) ≡ marks_of c
    index_unmarked true zero c = refl
    index_unmarked true (suc n) c = index_set (suc n) c
    index_unmarked false n c = index_set n c

    marks_noted : (l n : ℕ) (c : Code) → marks_of (noted i l n c) ≡ marks_of c
    marks_noted l n c =
        index_unmarked i.first_unnoted n (plain (basic (global_get i.state)) (plain (br_if l) c))
        ∙ unmarked (basic (global_get i.state)) (plain (br_if l) c) (k.on_basic (global_get i.state))
        ∙ unmarked (br_if l) c (k.on_br_if l)

    marks_return : (c : Code) → marks_of (followed_by c (plain return done)) ≡ marks_of c ++ []
    marks_return c = marks_then c (plain return done) ∙ ap (λ z. marks_of c ++ z) (unmarked return done k.on_return)

    marks_last : (e : Exit) (c : Code) → marks_of (last_piece i e c) ≡ marks_of c ++ []
    marks_last its_end c = marks_guarded c done
    marks_last (by_label l) c = sym (append-nil (marks_of c))
    marks_last nowhere c = sym (append-nil (marks_of c))
    marks_last function_end c = marks_return c

    marks_ends : (e : Exit) (own : Bool) (c : Code) → marks_of (ends_too e own c) ≡ marks_of c
    marks_ends e true c = refl
    marks_ends its_end false c = refl
    marks_ends (by_label l) false c = refl
    marks_ends nowhere false c = refl
    marks_ends function_end false c = marks_return c ∙ append-nil (marks_of c)

    -- a call, in a block of its own or not
    marks_call : (e : Exit) (any : Bool) (n : ℕ) (first : Code) (call_of : Bool → Code) (next : Code) (called behind : List X) → ((own : Bool) → marks_of (call_of own) ≡ called)
        → marks_of next ≡ behind → (any ≡ false → behind ≡ []) → marks_of (call_front i e any n first call_of next) ≡ (marks_of first ++ called) ++ behind
    marks_call e any n first call_of next called behind same next_is none = by e any none
      where
        in_block : marks_of (nest a_block None (sought i 1 2 n first (call_of true)) next) ≡ (marks_of first ++ called) ++ behind
        in_block = ap (λ z. z ++ marks_of next) (marks_sought 1 2 n first (call_of true) ∙ ap (λ z. marks_of first ++ z) (same true)) ∙ ap (λ z. (marks_of first ++ called) ++ z) next_is

        ends : behind ≡ [] → marks_of first ++ called ≡ (marks_of first ++ called) ++ behind
        ends e = sym (ap (λ z. (marks_of first ++ called) ++ z) e ∙ append-nil (marks_of first ++ called))

        by : (e : Exit) (any : Bool) → (any ≡ false → behind ≡ []) → marks_of (call_front i e any n first call_of next) ≡ (marks_of first ++ called) ++ behind
        by its_end any none = in_block
        by (by_label l) true none = in_block
        by (by_label l) false none = marks_sought (suc l) 1 n first (call_of false) ∙ ap (λ z. marks_of first ++ z) (same false) ∙ ends (none refl)
        by nowhere true none = in_block
        by nowhere false none = marks_guarded first (call_of false) ∙ ap (λ z. marks_of first ++ z) (same false) ∙ ends (none refl)
        by function_end true none = in_block
        by function_end false none = marks_guarded first (call_of false) ∙ ap (λ z. marks_of first ++ z) (same false) ∙ ends (none refl)

    none_behind : (us : Units) → any_unit us ≡ false → marks_of (flat_units us) ≡ []
    none_behind no_unit q = refl
    none_behind (call_unit _ _ _ _ _) q = cc
    none_behind (nest_unit _ _ _ _ _) q = cc
    none_behind (if_unit _ _ _ _ _ _ _) q = cc

    one : (n : ℕ) → marks_of (plain (basic (const (V.I32 n))) done) ≡ []
    one n = unmarked (basic (const (V.I32 n))) done (k.on_basic (const (V.I32 n)))

    marks_choice : (n : ℕ) (a b : Units) → marks_of (choice i n a b) ≡ []
    marks_choice n a no_unit = one 1
    marks_choice n no_unit (call_unit _ _ _ _ _) = one 0
    marks_choice n no_unit (nest_unit _ _ _ _ _) = one 0
    marks_choice n no_unit (if_unit _ _ _ _ _ _ _) = one 0
    marks_choice n (call_unit s x t h r) (call_unit _ _ _ _ _) = marks_index (n + numbers_in (call_unit s x t h r)) (num I32LtU) done
    marks_choice n (call_unit s x t h r) (nest_unit _ _ _ _ _) = marks_index (n + numbers_in (call_unit s x t h r)) (num I32LtU) done
    marks_choice n (call_unit s x t h r) (if_unit _ _ _ _ _ _ _) = marks_index (n + numbers_in (call_unit s x t h r)) (num I32LtU) done
    marks_choice n (nest_unit s x t h r) (call_unit _ _ _ _ _) = marks_index (n + numbers_in (nest_unit s x t h r)) (num I32LtU) done
    marks_choice n (nest_unit s x t h r) (nest_unit _ _ _ _ _) = marks_index (n + numbers_in (nest_unit s x t h r)) (num I32LtU) done
    marks_choice n (nest_unit s x t h r) (if_unit _ _ _ _ _ _ _) = marks_index (n + numbers_in (nest_unit s x t h r)) (num I32LtU) done
    marks_choice n (if_unit o p q r s t u) (call_unit _ _ _ _ _) = marks_index (n + numbers_in (if_unit o p q r s t u)) (num I32LtU) done
    marks_choice n (if_unit o p q r s t u) (nest_unit _ _ _ _ _) = marks_index (n + numbers_in (if_unit o p q r s t u)) (num I32LtU) done
    marks_choice n (if_unit o p q r s t u) (if_unit _ _ _ _ _ _ _) = marks_index (n + numbers_in (if_unit o p q r s t u)) (num I32LtU) done

    -- the flat code of a sequence
    abbrev flat : Code → Units → List X
    flat first us = marks_of first ++ marks_of (flat_units us)

    marks_arm : (us : Units) (first code : Code) → marks_of code ≡ flat first us → marks_of (arm us first code) ≡ flat first us
    marks_arm no_unit first code e = sym (append-nil (marks_of first))
    marks_arm (call_unit _ _ _ _ _) first code e = e
    marks_arm (nest_unit _ _ _ _ _) first code e = e
    marks_arm (if_unit _ _ _ _ _ _ _) first code e = e

    -- guarded code has the marks of flat code
    pub marks_front : (e : Exit) (d n : ℕ) (first : Code) (us : Units) → marks_of (front i e d n first us) ≡ flat first us
    marks_front e d n first no_unit = marks_last e first
    marks_front e d n first (call_unit slots x to behind rest) =
        let called : (own : Bool) → marks_of (call_guarded i e own d n slots x to behind) ≡ k.marks (call_to x) ++ marks_of behind =
        λ own. marks_slots slots (plain (call_to x) (noted i (one_more own d) n (set_to to (ends_too e own (raised 0 (one_more own 0) behind)))))
        ∙ ap (λ z. k.marks (call_to x) ++ z) (marks_noted (one_more own d) n (set_to to (ends_too e own (raised 0 (one_more own 0) behind)))
        ∙ marks_set to (ends_too e own (raised 0 (one_more own 0) behind)) ∙ marks_ends e own (raised 0 (one_more own 0) behind) ∙ marks_raised 0 (one_more own 0) behind) in
        let own : marks_of (slots_got slots (plain (call_to x) (set_to to (followed_by behind (flat_units rest))))) ≡ k.marks (call_to x) ++ (marks_of behind ++ marks_of (flat_units rest)) =
        marks_slots slots (plain (call_to x) (set_to to (followed_by behind (flat_units rest))))
        ∙ ap (λ z. k.marks (call_to x) ++ z) (marks_set to (followed_by behind (flat_units rest)) ∙ marks_then behind (flat_units rest)) in
        marks_call e (any_unit rest) n first (λ own. call_guarded i e own d n slots x to behind) (front i e d (suc n) done rest) (k.marks (call_to x) ++ marks_of behind) (marks_of (flat_units rest))
        called (marks_front e d (suc n) done rest) (none_behind rest)
        ∙ append_assoc (marks_of first) (k.marks (call_to x) ++ marks_of behind) (marks_of (flat_units rest))
        ∙ ap (λ z. marks_of first ++ z) (append_assoc (k.marks (call_to x)) (marks_of behind) (marks_of (flat_units rest)) ∙ sym own)
    marks_front e d n first (nest_unit s inner body behind rest) =
        let w = exit_inside e s (any_unit rest) in
        marks_guarded first (nest s None (front i w (suc d) n inner body) (front i e d (n + numbers_in body) behind rest))
        ∙ ap (λ z. marks_of first ++ (z ++ marks_of (front i e d (n + numbers_in body) behind rest))) (marks_front w (suc d) n inner body ∙ sym (marks_then inner (flat_units body)))
        ∙ ap (λ z. marks_of first ++ (marks_of (followed_by inner (flat_units body)) ++ z)) (marks_front e d (n + numbers_in body) behind rest ∙ sym (marks_then behind (flat_units rest)))
    marks_front e d n first (if_unit o fa a fb b behind rest) =
        let v = exit_inside e a_block (any_unit rest) in
        let whole : Code = raised 0 1 (followed_by first (got_any o done)) in
        let one_arm : Code = arm a fa (front i v (suc d) n fa a) in
        let two_arm : Code = arm b fb (front i v (suc d) (n + numbers_in a) fb b) in
        let next : Code = front i e d (n + numbers_in a + numbers_in b) behind rest in
        let ea : marks_of one_arm ≡ marks_of (followed_by fa (flat_units a)) = marks_arm a fa (front i v (suc d) n fa a) (marks_front v (suc d) n fa a) ∙ sym (marks_then fa (flat_units a)) in
        let eb : marks_of two_arm ≡ marks_of (followed_by fb (flat_units b)) = marks_arm b fb (front i v (suc d) (n + numbers_in a) fb b) (marks_front v (suc d) (n + numbers_in a) fb b)
        ∙ sym (marks_then fb (flat_units b)) in
        let en : marks_of next ≡ marks_of (followed_by behind (flat_units rest)) = marks_front e d (n + numbers_in a + numbers_in b) behind rest ∙ sym (marks_then behind (flat_units rest)) in
        let tested : marks_of whole ≡ marks_of first =
        marks_raised 0 1 (followed_by first (got_any o done)) ∙ marks_then first (got_any o done) ∙ ap (λ z. marks_of first ++ z) (marks_any o done) ∙ append-nil (marks_of first) in
        let arms : Code = branch None one_arm two_arm next in
        let flat_arms : Code = branch None (followed_by fa (flat_units a)) (followed_by fb (flat_units b)) (followed_by behind (flat_units rest)) in
        let same : marks_of arms ≡ marks_of flat_arms =
        ap (λ z. z ++ marks_of two_arm ++ marks_of next) ea ∙ ap (λ z. marks_of (followed_by fa (flat_units a)) ++ z ++ marks_of next) eb
        ∙ ap (λ z. marks_of (followed_by fa (flat_units a)) ++ marks_of (followed_by fb (flat_units b)) ++ z) en in
        unmarked (basic (global_get i.state)) (branch (Some I32) (choice i n a b) whole arms) (k.on_basic (global_get i.state))
        ∙ ap (λ z. z ++ marks_of whole ++ marks_of arms) (marks_choice n a b)
        ∙ ap (λ z. z ++ marks_of arms) tested
        ∙ ap (λ z. marks_of first ++ z) (same ∙ sym (marks_any o flat_arms))

    -- ---- a sequence that a function begins with

    -- code in a test's first arm is as good as other code with its marks
    marks_swapped : (a a' b c : Code) → marks_of a ≡ marks_of a' → marks_of (by_state i.state a b c) ≡ marks_of (by_state i.state a' b c)
    marks_swapped a a' b c e = ap (λ z. k.marks (basic (global_get i.state)) ++ (z ++ marks_of b ++ marks_of c)) e

    module _ (h : Code → Code) (same : (c : Code) → marks_of (h c) ≡ marks_of c) where
      -- a test of its own, with a piece or none in its other arm
      marks_alone : (first next : Code) → marks_of (by_state i.state (h done) (raised 0 1 first) next) ≡ marks_of (guarded i first next)
      marks_alone first next =
          marks_swapped (h done) done (raised 0 1 first) next (same done) ∙ marks_state done (raised 0 1 first) next
          ∙ ap (λ z. z ++ marks_of next) (marks_raised 0 1 first) ∙ sym (marks_guarded first next)

      marks_first : (l m n : ℕ) (a c : Code) → marks_of (sought_first i h l m n a c) ≡ marks_of (sought i l m n a c)
      marks_first l m n a c =
          let tested : Code = index_with i (basic (num I32Ne)) n (plain (br_if l) done) in
          marks_swapped (h tested) tested (raised 0 m a) c (same tested)

      marks_first_call : (e : Exit) (any : Bool) (n : ℕ) (first : Code) (call_of : Bool → Code) (next : Code)
          → marks_of (call_entry i h e any n first call_of next) ≡ marks_of (call_front i e any n first call_of next)
      marks_first_call its_end any n first call_of next = ap (λ z. z ++ marks_of next) (marks_first 1 2 n first (call_of true))
      marks_first_call (by_label l) true n first call_of next = ap (λ z. z ++ marks_of next) (marks_first 1 2 n first (call_of true))
      marks_first_call (by_label l) false n first call_of next = marks_first (suc l) 1 n first (call_of false)
      marks_first_call nowhere true n first call_of next = ap (λ z. z ++ marks_of next) (marks_first 1 2 n first (call_of true))
      marks_first_call nowhere false n first call_of next = marks_alone first (call_of false)
      marks_first_call function_end true n first call_of next = ap (λ z. z ++ marks_of next) (marks_first 1 2 n first (call_of true))
      marks_first_call function_end false n first call_of next = marks_alone first (call_of false)

      -- it has the marks that it would have elsewhere
      marks_entry : (e : Exit) (d n : ℕ) (first : Code) (us : Units) → marks_of (entry i h e d n first us) ≡ marks_of (front i e d n first us)
      marks_entry e d n first no_unit = marks_alone done (last_piece i e first)
      marks_entry e d n first (call_unit slots x to behind rest) =
          marks_first_call e (any_unit rest) n first (λ own. call_guarded i e own d n slots x to behind) (front i e d (suc n) done rest)
      marks_entry e d n done (nest_unit a_block inner body behind rest) =
          ap (λ z. z ++ marks_of (front i e d (n + numbers_in body) behind rest)) (marks_entry (exit_inside e a_block (any_unit rest)) (suc d) n inner body)
      marks_entry e d n done (nest_unit a_loop inner body behind rest) = marks_alone done (front i e d n done (nest_unit a_loop inner body behind rest))
      marks_entry e d n (plain p c) (nest_unit s inner body behind rest) = marks_alone (plain p c) (front i e d n done (nest_unit s inner body behind rest))
      marks_entry e d n (nest t r y c) (nest_unit s inner body behind rest) = marks_alone (nest t r y c) (front i e d n done (nest_unit s inner body behind rest))
      marks_entry e d n (branch r y z c) (nest_unit s inner body behind rest) = marks_alone (branch r y z c) (front i e d n done (nest_unit s inner body behind rest))
      marks_entry e d n first (if_unit o fa a fb b behind rest) =
          let v = exit_inside e a_block (any_unit rest) in
          let arms : Code = branch None (arm a fa (front i v (suc d) n fa a)) (arm b fb (front i v (suc d) (n + numbers_in a) fb b)) (front i e d (n + numbers_in a + numbers_in b) behind rest) in
          ap (λ z. k.marks (basic (global_get i.state)) ++ (z ++ marks_of (raised 0 1 (followed_by first (got_any o done))) ++ marks_of arms)) (same (choice i n a b))

  -- ---- frames

  marks_stored : (t : ValType) (off : ℕ) (c : Code) → marks_of (stored_value t off c) ≡ marks_of c
  marks_stored I32 off c = unmarked (basic (store 0x36 2 off)) c (k.on_basic (store 0x36 2 off))
  marks_stored I64 off c = unmarked (basic (store 0x37 3 off)) c (k.on_basic (store 0x37 3 off))

  marks_loaded : (t : ValType) (off : ℕ) (c : Code) → marks_of (loaded_value t off c) ≡ marks_of c
  marks_loaded I32 off c = unmarked (basic (load 0x28 2 off)) c (k.on_basic (load 0x28 2 off))
  marks_loaded I64 off c = unmarked (basic (load 0x29 3 off)) c (k.on_basic (load 0x29 3 off))

  marks_stores : (sp : ℕ) (ps : List Place) (c : Code) → marks_of (locals_stored sp ps c) ≡ marks_of c
  marks_stores sp [] c = refl
  marks_stores sp (p ∷ ps) c =
      let next : Code = stored_value p.ty p.offset (locals_stored sp ps c) in
      unmarked (local_get sp) (plain (local_get p.local) next) (k.on_get sp) ∙ unmarked (local_get p.local) next (k.on_get p.local)
      ∙ marks_stored p.ty p.offset (locals_stored sp ps c) ∙ marks_stores sp ps c

  marks_loads : (sp : ℕ) (ps : List Place) (c : Code) → marks_of (locals_loaded sp ps c) ≡ marks_of c
  marks_loads sp [] c = refl
  marks_loads sp (p ∷ ps) c =
      let next : Code = plain (local_set p.local) (locals_loaded sp ps c) in
      unmarked (local_get sp) (loaded_value p.ty p.offset next) (k.on_get sp) ∙ marks_loaded p.ty p.offset next
      ∙ unmarked (local_set p.local) (locals_loaded sp ps c) (k.on_set p.local) ∙ marks_loads sp ps c

  with_basic : (b : Basic) (c : Code) → marks_of (plain (basic b) c) ≡ marks_of c
  with_basic b c = unmarked (basic b) c (k.on_basic b)

  with_get : (x : ℕ) (c : Code) → marks_of (plain (local_get x) c) ≡ marks_of c
  with_get x c = unmarked (local_get x) c (k.on_get x)

  with_set : (x : ℕ) (c : Code) → marks_of (plain (local_set x) c) ≡ marks_of c
  with_set x c = unmarked (local_set x) c (k.on_set x)

  with_tee : (x : ℕ) (c : Code) → marks_of (plain (local_tee x) c) ≡ marks_of c
  with_tee x c = unmarked (local_tee x) c (k.on_tee x)

  marks_location : (adr : ℕ) (c : Code) → marks_of (location_of adr c) ≡ marks_of c
  marks_location adr c = with_basic (global_get adr) (plain (basic (load 0x28 2 0)) c) ∙ with_basic (load 0x28 2 0) c

  marks_room : (adr sp size : ℕ) (c : Code) → marks_of (room_tested adr sp size c) ≡ marks_of c
  marks_room adr sp size c =
      let last : Code = branch None (plain unreachable done) done c in
      let compared : Code = plain (basic (num I32LtU)) last in
      let sized : Code = plain (basic (const (V.I32 size))) compared in
      let less : Code = plain (basic (num I32Sub)) sized in
      let teed : Code = plain (local_tee sp) less in
      let limit : Code = plain (basic (load 0x28 2 4)) (location_of adr teed) in
      with_basic (global_get adr) limit ∙ with_basic (load 0x28 2 4) (location_of adr teed) ∙ marks_location adr teed ∙ with_tee sp less ∙ with_basic (num I32Sub) sized
      ∙ with_basic (const (V.I32 size)) compared ∙ with_basic (num I32LtU) last ∙ ap (λ z. z ++ [] ++ marks_of c) (unmarked unreachable done k.on_stop)

  pub marks_saving : (i : SpillIndices) (n : ℕ) (ps : List Place) (c : Code) → marks_of (saving i n ps c) ≡ marks_of c
  marks_saving i n ps c =
      let size : ℕ = n + 4 in
      let lifted : Code = stored_value I32 0 c in
      let added : Code = plain (basic (num I32Add)) lifted in
      let sized : Code = plain (basic (const (V.I32 size))) added in
      let based : Code = plain (local_get i.scratch) sized in
      let raises : Code = plain (basic (global_get i.address)) based in
      let kept : Code = stored_value I32 n raises in
      let index : Code = plain (local_get i.index) kept in
      let saved : Code = plain (local_get i.scratch) index in
      marks_room i.address i.scratch size (locals_stored i.scratch ps saved) ∙ marks_stores i.scratch ps saved ∙ with_get i.scratch index ∙ with_get i.index kept
      ∙ marks_stored I32 n raises ∙ with_basic (global_get i.address) based ∙ with_get i.scratch sized ∙ with_basic (const (V.I32 size)) added ∙ with_basic (num I32Add) lifted
      ∙ marks_stored I32 0 c

  pub marks_restoring : (i : SpillIndices) (n : ℕ) (ps : List Place) (c : Code) → marks_of (restoring i n ps c) ≡ marks_of c
  marks_restoring i n ps c =
      let size : ℕ = n + 4 in
      let set : Code = plain (local_set i.index) c in
      let index : Code = plain (local_get i.scratch) (loaded_value I32 n set) in
      let next : Code = locals_loaded i.scratch ps index in
      let lowered : Code = stored_value I32 0 next in
      let teed : Code = plain (local_tee i.scratch) lowered in
      let less : Code = plain (basic (num I32Sub)) teed in
      let sized : Code = plain (basic (const (V.I32 size))) less in
      with_basic (global_get i.address) (location_of i.address sized) ∙ marks_location i.address sized ∙ with_basic (const (V.I32 size)) less ∙ with_basic (num I32Sub) teed
      ∙ with_tee i.scratch lowered ∙ marks_stored I32 0 next ∙ marks_loads i.scratch ps index ∙ with_get i.scratch (loaded_value I32 n set) ∙ marks_loaded I32 n set
      ∙ with_set i.index c

  -- a value for a result
  pub marks_value : (t : Option ValType) → marks_of (value_code t) ≡ []
  marks_value None = refl
  marks_value (Some t) = with_basic (const (zero_of t)) done

  marks_result : (r : Option ℕ) → marks_of (result_got r) ≡ []
  marks_result None = refl
  marks_result (Some x) = with_get x done

  -- the written body has the marks of the flat code
  pub marks_written : (i : GuardIndices) (before after : Code) (r : Option ℕ) (first : Code) (us : Units) → marks_of before ≡ [] → marks_of after ≡ []
      → marks_of (written_body i (followed_by before) after done (block_unit first us r)) ≡ marks_of (followed_by first (flat_units us))
  marks_written i before after r first us eb ea =
      let own : Units = block_unit first us r in
      let body : Code = followed_by first (flat_units us) in
      let restores : (c : Code) → marks_of (followed_by before c) ≡ marks_of c = λ c. marks_then before c ∙ ap (λ z. z ++ marks_of c) eb in
      ap (λ z. marks_of (guarded_body i (followed_by before) done own) ++ z) ea
      ∙ append-nil (marks_of (guarded_body i (followed_by before) done own))
      ∙ marks_entry i (followed_by before) restores function_end 0 0 done own
      ∙ marks_front i function_end 0 0 done own
      ∙ ap (λ z. marks_of body ++ z) (marks_then (result_got r) done ∙ append-nil (marks_of (result_got r)) ∙ marks_result r)
      ∙ append-nil (marks_of body)

-- ---- calls

abbrev pub call_marks : Plain → List Callee
call_marks p = callee_onto (callee p) []

pub call_raised : (d n : ℕ) (p : Plain) → call_marks (raised_plain d n p) ≡ call_marks p
call_raised d n (br l) = refl
call_raised d n (br_if l) = refl
call_raised d n (br_table ls l) = refl
call_raised d n _ = refl

abbrev pub call_marking : Marking Callee
call_marking = record {
  marks = call_marks;
  on_basic = λ b. refl;
  on_get = λ x. refl;
  on_set = λ x. refl;
  on_tee = λ x. refl;
  on_stop = refl;
  on_return = refl;
  on_br_if = λ l. refl;
  on_raised = call_raised;
}

pub calls_are : (c : Code) → marks_of call_marking c ≡ calls_of c
unfolding calls_of
calls_are done = refl
calls_are (plain p rest) = ap (λ z. call_marks p ++ z) (calls_are rest) ∙ by (callee p)
  where
    by : (o : Option Callee) → callee_onto o [] ++ calls_of rest ≡ callee_onto o (calls_of rest)
    by None = refl
    by (Some x) = refl
calls_are (nest s r body rest) = ap (λ z. z ++ marks_of call_marking rest) (calls_are body) ∙ ap (λ z. calls_of body ++ z) (calls_are rest)
calls_are (branch r a b rest) =
    ap (λ z. z ++ marks_of call_marking b ++ marks_of call_marking rest) (calls_are a) ∙ ap (λ z. calls_of a ++ z ++ marks_of call_marking rest) (calls_are b)
    ∙ ap (λ z. calls_of a ++ calls_of b ++ z) (calls_are rest)

-- ---- lists of branch tables

abbrev pub table_marks : Plain → List ℕ
table_marks (br_table ls l) = length ls ∷ []
table_marks _ = []

pub table_raised : (d n : ℕ) (p : Plain) → table_marks (raised_plain d n p) ≡ table_marks p
table_raised d n (br l) = refl
table_raised d n (br_if l) = refl
table_raised d n (br_table ls l) = ap (λ k. k ∷ []) (length-map ls (raise d n))
table_raised d n (basic b) = refl
table_raised d n (local_get x) = refl
table_raised d n (local_set x) = refl
table_raised d n (local_tee x) = refl
table_raised d n return = refl
table_raised d n unreachable = refl
table_raised d n (call x) = refl
table_raised d n (call_indirect x) = refl

abbrev pub table_marking : Marking ℕ
table_marking = record {
  marks = table_marks;
  on_basic = λ b. refl;
  on_get = λ x. refl;
  on_set = λ x. refl;
  on_tee = λ x. refl;
  on_stop = refl;
  on_return = refl;
  on_br_if = λ l. refl;
  on_raised = table_raised;
}

module _ (n : ℕ) where
  abbrev Few : List ℕ → Type 0
  Few xs = Each (λ x. x < n) xs

  both : (xs ys : List ℕ) → Few xs → Few ys → Few (xs ++ ys)
  both [] ys h g = g
  both (x ∷ xs) ys h g = (h.0, both xs ys h.1 g)

  parts : (xs ys : List ℕ) → Few (xs ++ ys) → Few xs × Few ys
  parts [] ys h = (tt, h)
  parts (x ∷ xs) ys h = let r = parts xs ys h.1 in ((h.0, r.0), r.1)

  plain_few : (p : Plain) → plain_lists n p → Few (table_marks p)
  plain_few (br_table ls l) h = (h, tt)
  plain_few _ h = tt

  plain_from : (p : Plain) → Few (table_marks p) → plain_lists n p
  plain_from (br_table ls l) h = h.0
  plain_from (basic b) h = tt
  plain_from (local_get x) h = tt
  plain_from (local_set x) h = tt
  plain_from (local_tee x) h = tt
  plain_from (br l) h = tt
  plain_from (br_if l) h = tt
  plain_from return h = tt
  plain_from unreachable h = tt
  plain_from (call x) h = tt
  plain_from (call_indirect x) h = tt

  pub tables_few : (c : Code) → code_lists n c → Each (λ x. x < n) (marks_of table_marking c)
  tables_few done h = tt
  tables_few (plain p rest) h = both (table_marks p) (marks_of table_marking rest) (plain_few p h.0) (tables_few rest h.1)
  tables_few (nest s r body rest) h = both (marks_of table_marking body) (marks_of table_marking rest) (tables_few body h.0) (tables_few rest h.1)
  tables_few (branch r a b rest) h =
      both (marks_of table_marking a ++ marks_of table_marking b) (marks_of table_marking rest)
      (both (marks_of table_marking a) (marks_of table_marking b) (tables_few a h.0) (tables_few b h.1)) (tables_few rest h.2)

  pub lists_few : (c : Code) → Each (λ x. x < n) (marks_of table_marking c) → code_lists n c
  lists_few done h = tt
  lists_few (plain p rest) h = let r = parts (table_marks p) (marks_of table_marking rest) h in (plain_from p r.0, lists_few rest r.1)
  lists_few (nest s r body rest) h = let q = parts (marks_of table_marking body) (marks_of table_marking rest) h in (lists_few body q.0, lists_few rest q.1)
  lists_few (branch r a b rest) h =
      let q = parts (marks_of table_marking a ++ marks_of table_marking b) (marks_of table_marking rest) h in
      let u = parts (marks_of table_marking a) (marks_of table_marking b) q.0 in (lists_few a u.0, lists_few b u.1, lists_few rest q.1)
