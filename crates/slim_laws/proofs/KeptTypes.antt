-- Slim code has the type of the code beside it.
use Rattle.std.proofs.Common.{◌≡◌, ℕ, zero, suc, List, [], ◌∷◌, ◌++◌, length, Option, Some, None, Bool, true, false, refl, sym, ap, ◌∙◌, subst, arith}
use Rattle.std.specs.Prelude.{slice_get, nat_le, if◌then◌else◌}
use Rattle.wa_types.specs.declared.values.ValType.{ValType}
use Rattle.wa_types.specs.declared.values.ValType.TheVariants.{I32}
use Rattle.wa_types.specs.Accesses.{AccessRow, load_row, store_row}
use Rattle.wa_types.specs.Syntax.{Basic, nop, drop, select, const, num, global_get, global_set, load, store, memory_size, memory_grow, memory_copy, memory_fill, br, br_if, br_table, return, call, call_indirect, a_block, a_loop, Code, plain, nest, branch}
use Rattle.wa_types.specs.declared.rules.Rule.TheVariants.{UnknownLabel, StackTypes, Alignment, ConstantGlobal}
use Rattle.wa_types.specs.Typing.{GlobalType, Around, Sig, moves, leaves, drops, selects, lacks, late, gets_global, sets_global, loads, stores, with_memory, basic_sig, gets, sets, tees, jump, jumps, all_there, all_alike, listed, Takes, Types}
use Rattle.wa_model.specs.Store.{takes, gives}
use Rattle.slim_laws.specs.Slim as S
use Rattle.slim_laws.specs.Slim.{Free, more, takes_none, takes_same, takes_one, Rises, rises, rises_below, Plainly, plainly, plainly_held, Terms, Slims, ends, does, keeps, uses, saves, narrows, forgets}
use Rattle.slim_laws.specs.Typed.{WovenTypes, types_same, types_both, types_kept, TypesAreKept, BodiesAreTyped}

-- ---- how many operands a rule takes and leaves

abbrev Sized : Sig → ℕ → ℕ → Type 0
Sized (moves ps rs) n g = (length ps ≡ n) × (length rs ≡ g)
Sized (leaves ps) n g = ⊥
Sized drops n g = (n ≡ 1) × (g ≡ 0)
Sized selects n g = (n ≡ 3) × (g ≡ 1)
Sized (lacks r) n g = Unit {0}
Sized (late r ps rs) n g = Unit {0}

three_taken : (b : Bool) → Sized (with_memory b (I32 ∷ I32 ∷ I32 ∷ []) []) 3 0
three_taken false = tt
three_taken true = (refl, refl)

sized : (c : Around) (b : Basic) → Sized (basic_sig c b) (takes b) (gives b)
sized c nop = (refl, refl)
sized c drop = (refl, refl)
sized c select = (refl, refl)
sized c (const v) = (refl, refl)
sized c (num op) = (refl, refl)
sized c (global_get x) = by (slice_get c.globals x)
  where
    by : (o : Option GlobalType) → Sized (gets_global o) 0 1
    by None = tt
    by (Some g) = (refl, refl)
sized c (global_set x) = by (slice_get c.globals x)
  where
    by_mutable : (ty : ValType) (b : Bool) → Sized (if b then moves (ty ∷ []) [] else late ConstantGlobal (ty ∷ []) []) 1 0
    by_mutable ty true = (refl, refl)
    by_mutable ty false = tt

    by : (o : Option GlobalType) → Sized (sets_global o) 1 0
    by None = tt
    by (Some g) = by_mutable g.ty g.mutable
sized c (load op align offset) = by c.memory (load_row op)
  where
    by_align : (ty : ValType) (b : Bool) → Sized (if b then moves (I32 ∷ []) (ty ∷ []) else late Alignment (I32 ∷ []) (ty ∷ [])) 1 1
    by_align ty true = (refl, refl)
    by_align ty false = tt

    by : (b : Bool) (o : Option AccessRow) → Sized (loads b align o) 1 1
    by false o = tt
    by true None = tt
    by true (Some row) = by_align row.ty (nat_le align row.natural)
sized c (store op align offset) = by c.memory (store_row op)
  where
    by_align : (ty : ValType) (b : Bool) → Sized (if b then moves (ty ∷ I32 ∷ []) [] else late Alignment (ty ∷ I32 ∷ []) []) 2 0
    by_align ty true = (refl, refl)
    by_align ty false = tt

    by : (b : Bool) (o : Option AccessRow) → Sized (stores b align o) 2 0
    by false o = tt
    by true None = tt
    by true (Some row) = by_align row.ty (nat_le align row.natural)
sized c memory_size = by c.memory
  where
    by : (b : Bool) → Sized (with_memory b [] (I32 ∷ [])) 0 1
    by false = tt
    by true = (refl, refl)
sized c memory_grow = by c.memory
  where
    by : (b : Bool) → Sized (with_memory b (I32 ∷ []) (I32 ∷ [])) 1 1
    by false = tt
    by true = (refl, refl)
sized c memory_copy = three_taken c.memory
sized c memory_fill = three_taken c.memory

-- ---- operands

module _ (locals : List ValType) where
  abbrev W : S.StackShape → List ValType → List ValType → Type 0
  W sh ins ins' = WovenTypes locals sh ins ins'

  plain_types : (sh : S.StackShape) (ins ins' : List ValType) → Plainly sh → W sh ins ins' → ins' ≡ ins
  plain_types _ _ _ p types_same = refl
  plain_types _ _ _ (plainly_held p) (types_both {sh = sh} {ins = ins} {ins' = ins'} ty wo) = ap (λ us. ty ∷ us) (plain_types sh ins ins' p wo)
  plain_types _ _ _ p (types_kept x ty e wo) = elim p [ ]

  -- the same operands on top
  pub record On (sh2 : S.StackShape) (ps below ins' : List ValType) : Type 0 where
    pub low : List ValType
    pub is : ins' ≡ ps ++ low
    pub rest : W sh2 below low

  on : (ps : List ValType) (n : ℕ) (sh sh2 : S.StackShape) (below ins' : List ValType) → length ps ≡ n → S.Takes n sh sh2 → W sh (ps ++ below) ins' → On sh2 ps below ins'
  on [] _ sh _ below ins' e takes_none wo = record { low = ins'; is = refl; rest = wo }
  on (ty ∷ ps) _ sh _ below ins' e takes_none wo = absurd (omega arith)
  on ps n _ _ below _ e takes_same types_same = record { low = below; is = refl; rest = types_same }
  on [] _ _ _ below ins' e (takes_one ta) wo = absurd (omega arith)
  on (ty ∷ ps) _ _ _ below _ e (takes_one {n = n} {sh = sh} {sh2 = sh2} ta) (types_both {ins' = ins'} ty2 wo) =
      let r = on ps n sh sh2 below ins' (omega arith) ta wo in record { low = r.low; is = ap (λ us. ty ∷ us) r.is; rest = r.rest }

  more_types : (rs : List ValType) (g : ℕ) (sh : S.StackShape) (below low : List ValType) → length rs ≡ g → W sh below low → W (more g sh) (rs ++ below) (rs ++ low)
  more_types [] g sh below low e wo = subst (λ k. W (more k sh) below low) e wo
  more_types (ty ∷ rs) zero sh below low e wo = absurd (omega arith)
  more_types (ty ∷ rs) (suc g) sh below low e wo = types_both ty (more_types rs g sh below low (omega arith) wo)

  -- what a rule makes of the operands of both
  pub record Goes (s : Sig) (g : ℕ) (sh2 : S.StackShape) (mids ins' : List ValType) : Type 0 where
    pub mids' : List ValType
    pub takes' : Takes s ins' mids'
    pub rest : W (more g sh2) mids mids'

  moved : (s : Sig) (n g : ℕ) (sh sh2 : S.StackShape) (ins mids ins' : List ValType) → Sized s n g → S.Takes n sh sh2 → W sh ins ins' → Takes s ins mids → Goes s g sh2 mids ins'
  moved (moves ps rs) n g sh sh2 ins mids ins' z ta wo h =
      let r = on ps n sh sh2 h.0 ins' z.0 ta (subst (λ us. W sh us ins') h.1 wo) in
      record { mids' = rs ++ r.low; takes' = (r.low, r.is, refl); rest = subst (λ us. W (more g sh2) us (rs ++ r.low)) (sym h.2) (more_types rs g sh2 h.0 r.low z.1 r.rest) }
  moved (leaves ps) n g sh sh2 ins mids ins' z ta wo h = absurd z
  moved drops n g sh sh2 ins mids ins' z ta wo h =
      let e : length (h.0 ∷ []) ≡ n = sym z.0 in
      let r = on (h.0 ∷ []) n sh sh2 mids ins' e ta (subst (λ us. W sh us ins') h.1 wo) in
      record { mids' = r.low; takes' = (h.0, r.is); rest = subst (λ k. W (more k sh2) mids r.low) (sym z.1) r.rest }
  moved selects n g sh sh2 ins mids ins' z ta wo h =
      let e : length (I32 ∷ h.0 ∷ h.0 ∷ []) ≡ n = sym z.0 in
      let r = on (I32 ∷ h.0 ∷ h.0 ∷ []) n sh sh2 h.1 ins' e ta (subst (λ us. W sh us ins') h.2 wo) in
      record {
        mids' = h.0 ∷ r.low;
        takes' = (h.0, r.low, r.is, refl);
        rest =
            subst (λ k. W (more k sh2) mids (h.0 ∷ r.low)) (sym z.1) (subst (λ us. W (None ∷ sh2) us (h.0 ∷ r.low)) (sym h.3) (types_both h.0 r.rest));
      }
  moved (lacks r) n g sh sh2 ins mids ins' z ta wo h = absurd h
  moved (late r ps rs) n g sh sh2 ins mids ins' z ta wo h = absurd h

  risen_types : (x : ℕ) (ty : ValType) (sh sh2 : S.StackShape) (ins ins' : List ValType) → slice_get locals x ≡ Some ty → Rises x sh sh2 → W sh ins ins' → W sh2 (ty ∷ ins) ins'
  risen_types x ty _ _ _ _ e rises (types_kept {sh = sh} {ins = ins} {ins' = ins'} y ty2 e2 wo) =
      let q : Some ty2 ≡ Some ty = sym e2 ∙ e in let z : ty2 ≡ ty = cc in subst (λ u. W (None ∷ sh) (ty ∷ ins) (u ∷ ins')) (sym z) (types_both ty wo)
  risen_types x ty _ _ _ _ e (rises_below {sh = sh} {sh2 = sh2} ri) (types_kept {ins = ins} {ins' = ins'} y ty2 e2 wo) = types_kept y ty2 e2 (risen_types x ty sh sh2 ins ins' e ri wo)

sized_sets : (o : Option ValType) → Sized (sets o) 1 0
sized_sets None = tt
sized_sets (Some ty) = (refl, refl)

sized_tees : (o : Option ValType) → Sized (tees o) 1 1
sized_tees None = tt
sized_tees (Some ty) = (refl, refl)

sized_gets : (o : Option ValType) → Sized (gets o) 0 1
sized_gets None = tt
sized_gets (Some ty) = (refl, refl)

-- an operand that is got and set has one type, and leaves nothing
got_and_set : (ins mids lows : List ValType) (ty : ValType) (o p : Option ValType) → o ≡ Some ty → Takes (gets o) ins mids → Takes (sets p) mids lows → (p ≡ Some ty) × (lows ≡ ins)
got_and_set ins mids lows ty None p e h k = absurd h
got_and_set ins mids lows ty (Some u) None e h k = absurd k
got_and_set ins mids lows ty (Some u) (Some v) e h k =
    let q : u ≡ ty = cc in
    let z : v ∷ k.0 ≡ u ∷ ins = sym k.1 ∙ h.2 ∙ ap (λ us. u ∷ us) (sym h.1) in
    let a : v ≡ u = cc in
    let b : k.0 ≡ ins = cc in
    (ap Some (a ∙ q), k.2 ∙ b)

-- what a branch leaves is arbitrary
jump_any : (o : Option (Option ValType)) (ins a b : List ValType) → Takes (jump o) ins a → Takes (jump o) ins b
jump_any None ins a b h = absurd h
jump_any (Some r) ins a b h = h

jumps_any : (ls : List (Option ValType)) (es : List ℕ) (o : Option (Option ValType)) (ins a b : List ValType) → Takes (jumps ls es o) ins a → Takes (jumps ls es o) ins b
jumps_any ls es None ins a b h = absurd h
jumps_any ls es (Some r) ins a b h = by (all_there ls es) (all_alike ls r es) h
  where
    by : (p q : Bool) → Takes (if p then (if q then leaves (I32 ∷ listed r) else lacks StackTypes) else lacks UnknownLabel) ins a
        → Takes (if p then (if q then leaves (I32 ∷ listed r) else lacks StackTypes) else lacks UnknownLabel) ins b
    by true true h = h
    by true false h = absurd h
    by false q h = absurd h

module _ (c : Around) (t : Terms) where
  -- an instruction that leaves, or goes on, with the same operands on both sides
  pub typed : (ls : List (Option ValType)) (n : ℕ) (ts : List Free) (out f : Free) (sh : S.StackShape) (code code' : Code) (outs ins ins' : List ValType)
      → Slims t n ts out f sh code code' → WovenTypes c.locals sh ins ins' → Types c ls code outs ins → Types c ls code' outs ins'
  unfolding Types
  typed ls n ts out f sh _ _ outs ins ins' (ends co pl) wo h = plain_types c.locals sh ins ins' pl wo ∙ h
  typed ls n ts out f sh _ _ outs ins ins' (does {sh2 = sh2} {rest = rest} {rest' = rest'} b ta sl) wo h =
      let g = moved c.locals (basic_sig c b) (takes b) (gives b) sh sh2 ins h.0 ins' (sized c b) ta wo h.1 in
      (g.mids', g.takes', typed ls n ts out f (more (gives b) sh2) rest rest' outs h.0 g.mids' sl g.rest h.2)
  typed ls n ts out f sh _ _ outs ins ins' (S.gets {rest = rest} {rest' = rest'} x fr sl) wo h =
      let g = moved c.locals (gets (slice_get c.locals x)) 0 1 sh sh ins h.0 ins' (sized_gets (slice_get c.locals x)) takes_none wo h.1 in
      (g.mids', g.takes', typed ls n ts out f (None ∷ sh) rest rest' outs h.0 g.mids' sl g.rest h.2)
  typed ls n ts out f sh _ _ outs ins ins' (S.sets {sh2 = sh2} {rest = rest} {rest' = rest'} x g co ta la sl) wo h =
      let r = moved c.locals (sets (slice_get c.locals x)) 1 0 sh sh2 ins h.0 ins' (sized_sets (slice_get c.locals x)) ta wo h.1 in
      (r.mids', r.takes', typed ls n ts out g sh2 rest rest' outs h.0 r.mids' sl r.rest h.2)
  typed ls n ts out f sh _ _ outs ins ins' (S.tees {sh2 = sh2} {rest = rest} {rest' = rest'} x g co ta la sl) wo h =
      let r = moved c.locals (tees (slice_get c.locals x)) 1 1 sh sh2 ins h.0 ins' (sized_tees (slice_get c.locals x)) ta wo h.1 in
      (r.mids', r.takes', typed ls n ts out g (None ∷ sh2) rest rest' outs h.0 r.mids' sl r.rest h.2)
  typed ls n ts out f sh _ code' outs ins ins' (keeps {sh2 = sh2} {rest = rest} x g is lt co gx ta la sl) wo h =
      by (λ mids us k w. typed ls n ts out g (Some x ∷ sh2) rest code' outs mids us sl w k) (slice_get c.locals x) refl h.1
    where
      by : ((mids us : List ValType) → Types c ls rest outs mids → WovenTypes c.locals (Some x ∷ sh2) mids us → Types c ls code' outs us) → (o : Option ValType)
          → slice_get c.locals x ≡ o → Takes (sets o) ins h.0 → Types c ls code' outs ins'
      by ih None q k = absurd k
      by ih (Some ty) q k =
          let r = on c.locals (ty ∷ []) 1 sh sh2 k.0 ins' refl ta (subst (λ us. WovenTypes c.locals sh us ins') k.1 wo) in
          subst (λ us. Types c ls code' outs us) (sym r.is)
          (ih k.0 (ty ∷ r.low) (subst (λ us. Types c ls rest outs us) k.2 h.2) (types_kept x ty q r.rest))
  typed ls n ts out f sh _ code' outs ins ins' (uses {sh2 = sh2} {rest = rest} x is ri sl) wo h =
      by (λ mids us k w. typed ls n ts out f sh2 rest code' outs mids us sl w k) (slice_get c.locals x) refl h.1
    where
      by : ((mids us : List ValType) → Types c ls rest outs mids → WovenTypes c.locals sh2 mids us → Types c ls code' outs us) → (o : Option ValType) → slice_get c.locals x ≡ o
          → Takes (gets o) ins h.0 → Types c ls code' outs ins'
      by ih None q k = absurd k
      by ih (Some ty) q k =
          let e : h.0 ≡ ty ∷ ins = k.2 ∙ ap (λ us. ty ∷ us) (sym k.1) in
          ih (ty ∷ ins) ins' (subst (λ us. Types c ls rest outs us) e h.2) (risen_types c.locals x ty sh sh2 ins ins' q ri wo)
  typed ls n ts out f _ _ _ outs _ _ (S.copies {sh = sh} {rest = rest} {rest' = rest'} x y g is co la sl) (types_kept {ins = ins} {ins' = ins'} z ty e wo) h =
      let r = got_and_set ins h.0 (h.2).0 ty (slice_get c.locals x) (slice_get c.locals y) e h.1 (h.2).1 in (
        ty ∷ ins',
        subst (λ o. Takes (tees o) (ty ∷ ins') (ty ∷ ins')) (sym r.0) (ins', refl, refl),
        typed ls n ts out g (Some x ∷ sh) rest rest' outs ins (ty ∷ ins') sl (types_kept x ty e wo) (subst (λ us. Types c ls rest outs us) r.1 (h.2).2),
      )
  typed ls n ts out f _ code _ outs _ _ (saves {sh = sh} {code' = code'} x g lt co sl) (types_kept {ins = ins} {ins' = ins'} y ty e wo) h =
      (ins', subst (λ o. Takes (sets o) (ty ∷ ins') ins') (sym e) (ins', refl, refl), typed ls n ts out g sh code code' outs ins ins' sl wo h)
  typed ls n ts out f sh code code' outs ins ins' (narrows g co sl) wo h = typed ls n ts out g sh code code' outs ins ins' sl wo h
  typed ls n ts out f sh code code' outs ins ins' (forgets pl sl) wo h =
      subst (λ us. Types c ls code' outs us) (sym (plain_types c.locals sh ins ins' pl wo)) (typed ls n ts out f [] code code' outs ins ins sl types_same h)
  typed ls n ts out f sh _ _ outs ins ins' (S.leaps {rest = rest} l pl re) wo h = subst (λ us. Types c ls (plain (br l) rest) outs us) (sym (plain_types c.locals sh ins ins' pl wo)) h
  typed ls n ts out f sh _ _ outs ins ins' (S.leaps_if {rest = rest} {rest' = rest'} l pl re sl) wo h =
      subst (λ us. Types c ls (plain (br_if l) rest') outs us) (sym (plain_types c.locals sh ins ins' pl wo)) (h.0, h.1, typed ls n ts out f [] rest rest' outs h.0 h.0 sl types_same h.2)
  typed ls n ts out f sh _ _ outs ins ins' (S.leaps_by {rest = rest} es l pl re) wo h = subst (λ us. Types c ls (plain (br_table es l) rest) outs us) (sym (plain_types c.locals sh ins ins' pl wo)) h
  typed ls n ts out f sh _ _ outs ins ins' (S.returns_here {rest = rest} pl) wo h = subst (λ us. Types c ls (plain return rest) outs us) (sym (plain_types c.locals sh ins ins' pl wo)) h
  typed ls n ts out f sh _ _ outs ins ins' S.halts wo h = (h.0, (ins', refl), h.2)
  typed ls n ts out f sh _ _ outs ins ins' (S.calls {rest = rest} {rest' = rest'} x pl ac sl) wo h =
      subst (λ us. Types c ls (plain (call x) rest') outs us) (sym (plain_types c.locals sh ins ins' pl wo)) (h.0, h.1, typed ls n ts out f [] rest rest' outs h.0 h.0 sl types_same h.2)
  typed ls n ts out f sh _ _ outs ins ins' (S.calls_by {rest = rest} {rest' = rest'} x pl ac sl) wo h =
      subst (λ us. Types c ls (plain (call_indirect x) rest') outs us) (sym (plain_types c.locals sh ins ins' pl wo)) (h.0, h.1, typed ls n ts out f [] rest rest' outs h.0 h.0 sl types_same h.2)
  typed ls n ts out f sh _ _ outs ins ins' (S.blocks {body = body} {body' = body'} {rest = rest} {rest' = rest'} r g pl sb sl) wo h =
      subst (λ us. Types c ls (nest a_block r body' rest') outs us) (sym (plain_types c.locals sh ins ins' pl wo))
      (typed (r ∷ ls) _ (g ∷ ts) g f [] body body' (listed r) [] [] sb types_same h.0, typed ls n ts out g [] rest rest' outs (listed r ++ ins) (listed r ++ ins) sl types_same h.1)
  typed ls n ts out f sh _ _ outs ins ins' (S.loops {body = body} {body' = body'} {rest = rest} {rest' = rest'} r head g pl co sb sl) wo h =
      subst (λ us. Types c ls (nest a_loop r body' rest') outs us) (sym (plain_types c.locals sh ins ins' pl wo))
      (typed (None ∷ ls) _ (head ∷ ts) g head [] body body' (listed r) [] [] sb types_same h.0, typed ls n ts out g [] rest rest' outs (listed r ++ ins) (listed r ++ ins) sl types_same h.1)
  typed ls n ts out f sh _ _ outs ins ins' (S.decides {a = a} {a' = a'} {b = b} {b' = b'} {rest = rest} {rest' = rest'} r g pl sa sb sl) wo h =
      subst (λ us. Types c ls (branch r a' b' rest') outs us) (sym (plain_types c.locals sh ins ins' pl wo)) (
        h.0,
        h.1,
        typed (r ∷ ls) _ (g ∷ ts) g f [] a a' (listed r) [] [] sa types_same h.2,
        typed (r ∷ ls) _ (g ∷ ts) g f [] b b' (listed r) [] [] sb types_same h.3,
        typed ls n ts out g [] rest rest' outs (listed r ++ h.0) (listed r ++ h.0) sl types_same h.4,
      )

pub types_are_kept : TypesAreKept
types_are_kept c ls t n ts out f sh code code' outs ins ins' sl wo h = typed c t ls n ts out f sh code code' outs ins ins' sl wo h

pub bodies_are_typed : BodiesAreTyped
bodies_are_typed c t n ts out f code code' sl h = typed c t (c.result ∷ []) n ts out f [] code code' (listed c.result) [] [] sl types_same h
