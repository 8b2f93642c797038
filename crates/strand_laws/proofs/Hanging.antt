-- What is suspended stays suspended over a store that has kept the area, and answers pass their tests in a memory that has grown.
use Rattle.frame_laws.proofs.UnwoundStacks.{still_frame}
use Rattle.frame_laws.specs.Stack.{AllFit, HoldsStack, Level, level_size, total_size}
use Rattle.guard_runs.specs.Pause.{SuspendedIn}
use Rattle.std.proofs.Common.{Bool, List, None, Option, Some, [], ap, arith, false, length, refl, true, ℕ, ◌+◌, ◌∙◌, ◌∷◌, ◌≡◌, ◌≤◌}
use Rattle.std.proofs.lemmas.Bool.{leb-true}
use Rattle.std.specs.Prelude.{if◌then◌else◌, nat_le, ◌&&◌}
use Rattle.std.specs.List.{list_all}
use Rattle.wa_model.specs.declared.answers.Area.{Area}
use Rattle.wa_model.specs.declared.events.End.{End}
use Rattle.wa_model.specs.declared.events.End.TheVariants.{BadPoke}
use Rattle.wa_model.specs.Blocking.{bad_pause, bad_poke, bad_value, fault_of, is_off, is_unlisted, or_else}
use Rattle.wa_model.specs.Outside.{Answer, Poke}
use Rattle.wa_model.specs.Plan.{Plan}
use Rattle.wa_model.specs.Store.{Store}
use Rattle.wa_types.specs.Memory.{bytes_at}
use Rattle.wa_types.specs.Syntax.{Module}
use Rattle.wa_types.specs.declared.values.ValType.{ValType}

-- The bytes of the area are the same, and the memory is no smaller.
pub record AreaSame (area : Area) (s s' : Store) : Type 0 where
  pub bytes : (a n : ℕ) → area.at ≤ a → a + n ≤ area.at + area.len → bytes_at s'.memory a n ≡ bytes_at s.memory a n
  pub grown : length s.memory ≤ length s'.memory

stack_on : (g : ℕ) (area : Area) (p : Module) (st adr : ℕ) (s s' : Store) (at : ℕ) (vs : List Level) → AreaSame area s s' → area.at ≤ at → at + total_size vs ≤ area.at + area.len
    → AllFit g area p st adr vs
    → HoldsStack s.memory at vs → HoldsStack s'.memory at vs
stack_on g area p st adr s s' at [] h lo hi fit k = tt
stack_on g area p st adr s s' at (v ∷ vs) h lo hi fit k = (
  still_frame v.fn.layout s.memory s'.memory at _ v.locals v.site.number (fit.0).living.fields (λ a n l2 h2. h.bytes a n (omega arith) (omega arith)) k.0,
  stack_on g area p st adr s s' (at + level_size v) vs h (omega arith) (omega arith) fit.1 k.1,
)

pub suspended_on : (g : ℕ) (area : Area) (p : Module) (st adr : ℕ) (s s' : Store) (vs : List Level) → AreaSame area s s' → 8 + total_size vs ≤ area.len → AllFit g area p st adr vs
    → SuspendedIn area s vs
    → SuspendedIn area s' vs
suspended_on g area p st adr s s' vs h room fit k = record {
  frames = stack_on g area p st adr s s' (area.at + 8) vs h (omega arith) (omega arith) fit k.frames;
  location = h.bytes area.at 4 (omega arith) (omega arith) ∙ k.location;
  limit = h.bytes (area.at + 4) 4 (omega arith) (omega arith) ∙ k.limit;
}

-- ---- tests

le_leb : (a b : ℕ) → a ≤ b → nat_le a b ≡ true
le_leb a b h = grind arith

poke_more : (n m : ℕ) (areas : List Area) (qs : List Poke) → n ≤ m → bad_poke n areas qs ≡ None → bad_poke m areas qs ≡ None
poke_more n m areas [] le h = refl
poke_more n m areas (q ∷ qs) le h = by (λ g. poke_more n m areas qs le g) (nat_le (q.at + length q.bytes) n) refl (list_all (is_off q) areas) h
  where
    by : (bad_poke n areas qs ≡ None → bad_poke m areas qs ≡ None) → (t : Bool) → nat_le (q.at + length q.bytes) n ≡ t → (u : Bool)
        → (if t && u then bad_poke n areas qs else Some (BadPoke q.at (length q.bytes))) ≡ None
        → (if nat_le (q.at + length q.bytes) m && u then bad_poke m areas qs else Some (BadPoke q.at (length q.bytes))) ≡ None
    by ih true et true e =
        let few : q.at + length q.bytes ≤ n = leb-true (q.at + length q.bytes) n et in
        ap (λ (z : Bool). if z && true then bad_poke m areas qs else Some (BadPoke q.at (length q.bytes))) (le_leb (q.at + length q.bytes) m (omega arith)) ∙ ih e
    by ih true et false e = cc
    by ih false et u e = cc

else_more : (a b b' : Option End) → (b ≡ None → b' ≡ None) → or_else a b ≡ None → or_else a b' ≡ None
else_more None b b' f h = f h
else_more (Some e) b b' f h = cc

else_swap : (b b' c : Option End) → (b ≡ None → b' ≡ None) → or_else b c ≡ None → or_else b' c ≡ None
else_swap None b' c f h = ap (λ z. or_else z c) (f refl) ∙ h
else_swap (Some e) b' c f h = cc

pub passes_on : (types : List ValType) (n m : ℕ) (plan : Plan) (start : Bool) (i : ℕ) (a : Answer) → n ≤ m → fault_of types n plan start i a ≡ None → fault_of types m plan start i a ≡ None
passes_on types n m plan start i a le h =
    else_more (bad_value types i a.said) (or_else (bad_poke n (plan.area ∷ plan.others) a.pokes) (bad_pause start (is_unlisted plan.listed i) i a.ticks))
    (or_else (bad_poke m (plan.area ∷ plan.others) a.pokes) (bad_pause start (is_unlisted plan.listed i) i a.ticks))
    (else_swap (bad_poke n (plan.area ∷ plan.others) a.pokes) (bad_poke m (plan.area ∷ plan.others) a.pokes) (bad_pause start (is_unlisted plan.listed i) i a.ticks) (poke_more n m (plan.area ∷ plan.others) a.pokes le)) h
