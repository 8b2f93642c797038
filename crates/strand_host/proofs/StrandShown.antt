-- What is shown behind a program's end.
use Rattle.std.proofs.Common.{arith, ◌≡◌, ◌+◌, inl, ℕ, suc, List, [], ◌∷◌, ◌++◌, length, map, drop, Option, Some, None, Bool, true, false, if◌then◌else◌, nat_eq, Result, Ok, Err, slice_get, refl, sym, ap, ◌∙◌, subst, append_assoc, append-nil}
use Rattle.std.specs.Prelude.{IfOk, MatchOption}
use Rattle.std.proofs.lemmas.Option.{same_Some, slice_get_within}
use Rattle.wa_model.specs.declared.answers.Detach.{Detach}
use Rattle.wa_model.specs.Outside.{Event, shown}
use Rattle.wa_model.specs.Plan.{Outcome}
use Rattle.world_model.specs.World.{Device, Look, bytes_shown}
use Rattle.world_laws.proofs.Places.{item}
use Rattle.event_order.specs.declared.shows.Show.{Show}
use Rattle.event_order.specs.declared.turns.Turn.{Turn}
use Rattle.event_order.specs.Left.{Counted}
use Rattle.event_order.specs.Looks.{IsNextShow, look_of, looks_of}
use Rattle.many_host.specs.Standing.{looks_at}
use Rattle.strand_laws.specs.StrandWorld.{StrandLine, StrandsInWorld, strand_in}
use Rattle.strand_laws.specs.ToldStrands.{ProgramTeller, StrandTeller, TellsStrands, line_of}
use Rattle.strand_host.specs.declared.turn_taking.Stage.TheVariants.{Between, Showing}
use Rattle.strand_host.specs.declared.turn_taking.StrandLine.{StrandLine as LineValue}
use Rattle.strand_host.specs.StrandCalls.{BegunNext, TakesStrandCall}
use Rattle.strand_host.specs.StrandStanding.{Hosted, StrandsMeetMore, StrandsStanding, TellsStrandLine, shown_lines}

abbrev no_outcomes : List Outcome
no_outcomes = []

-- what is shown takes nothing
shown_takes : {X : Type 0} (programs : List StrandsInWorld) (xs : List X) (x : X) (due i : ℕ) (e : Event) (at : ℕ) (bytes : Option (List ℕ)) (cs : List Counted) → length xs ≡ length programs
    → slice_get xs i ≡ Some x → e ≡ shown at bytes → TakesStrandCall programs (line_of due i 0 e) [] cs cs
shown_takes programs xs x due i e at bytes cs wide there is =
    let g = item programs i (omega (arith, slice_get_within xs i x there, wide)) in
    subst (λ (v : Event). TakesStrandCall programs (line_of due i 0 v) [] cs cs) (sym is) (record { g = g.0; program = g.1; answers = []; left = []; takes = (refl, refl) })

-- no call was told
none_if : (b c : Bool) → no_outcomes ≡ (if b then (if c then [] else []) else [])
none_if true true = refl
none_if true false = refl
none_if false c = refl

meets_none : (program strand : ℕ) (tellers : List ProgramTeller) → StrandsMeetMore program strand [] tellers tellers
meets_none program strand tellers i k t t' u u' et et' eu eu' =
    let t_is : t' ≡ t = same_Some t' t (sym et' ∙ et) in
    let u_is : u' ≡ u = same_Some u' u (sym eu' ∙ ap (λ (v : ProgramTeller). slice_get v.strands k) t_is ∙ eu) in
    ap (λ (v : StrandTeller). v.met) u_is ∙ sym (append-nil u.met) ∙ ap (λ (l : List Outcome). u.met ++ l) (none_if (nat_eq i program) (nat_eq k strand))

module _ {X : Type 0} (follows : X → StrandsInWorld → ProgramTeller → Type 0) (due_at : X → Option ℕ) (memory : X → List ℕ)
    (programs : List StrandsInWorld) (detaches : List Detach) (ds : List Device) (lines : List StrandLine) (h : Hosted X) (ds' : List Device) (turn : Turn) (from : ℕ)
    (s : StrandsStanding follows due_at memory programs detaches ds lines h ds' (Showing turn from)) where
  abbrev line : Event → StrandLine
  line e = line_of turn.due turn.program 0 e

  -- once all looks are out the turn is whole
  abbrev pub all_shown : looks_of turn.program (drop from h.shows) ≡ [] → StrandsStanding follows due_at memory programs detaches ds lines h ds' Between
  all_shown none =
      record {
        tellers = s.tellers;
        wide = s.wide;
        as_many = s.as_many;
        each = s.each;
        dues = s.dues;
        detaches_are = s.detaches_are;
        at = subst (λ (ls : List StrandLine). TellsStrands programs detaches ds h.begun ls s.tellers ds')
            (ap (λ (l : List Look). lines ++ map line (looks_at (memory s.at.0) l)) none ∙ append-nil lines) s.at.2;
      }

  -- one look more
  shown_on : (x : X) (place next : ℕ) (look : Show) (e : Event) → slice_get h.programs turn.program ≡ Some x → next ≡ place + 1
      → IsNextShow turn.program h.shows from place → slice_get h.shows place ≡ Some look → e ≡ shown look.at (bytes_shown (memory x) (record { at = look.at; len = look.len }))
      → TellsStrands programs detaches ds h.begun ((lines ++ line e ∷ []) ++ shown_lines turn.due turn.program (memory x) next h.shows) s.tellers ds'
  shown_on x place next look e there next_is is look_there e_is =
      let look_is : look ≡ is.show = same_Some look is.show (sym look_there ∙ is.there) in
      let x_is : s.at.0 ≡ x = same_Some s.at.0 x (sym s.at.1 ∙ there) in
      let next_suc : suc place ≡ next = omega (arith, next_is) in
      let first : shown_lines turn.due turn.program (memory s.at.0) from h.shows ≡ line e ∷ shown_lines turn.due turn.program (memory x) next h.shows =
      ap (λ (l : List Look). map line (looks_at (memory s.at.0) l)) is.first
      ∙ (λ k. line (shown (sym look_is k).at (bytes_shown (memory (x_is k)) (look_of (sym look_is k)))) ∷ map line (looks_at (memory (x_is k)) (looks_of turn.program (drop (next_suc k) h.shows))))
      ∙ ap (λ (v : Event). line v ∷ map line (looks_at (memory x) (looks_of turn.program (drop next h.shows)))) (sym e_is) in
      subst (λ (ls : List StrandLine). TellsStrands programs detaches ds h.begun ls s.tellers ds')
      (ap (λ (ls : List StrandLine). lines ++ ls) first ∙ sym (append_assoc lines (line e ∷ []) (shown_lines turn.due turn.program (memory x) next h.shows))) s.at.2

  pub shown_line : (x : X) (place next : ℕ) (look : Show) (e : Event) (cs : List Counted) → slice_get h.programs turn.program ≡ Some x → next ≡ place + 1
      → IsNextShow turn.program h.shows from place → slice_get h.shows place ≡ Some look → e ≡ shown look.at (bytes_shown (memory x) (record { at = look.at; len = look.len }))
      → TellsStrandLine follows due_at memory programs detaches ds lines s.tellers cs cs (record { tick = turn.due; program = turn.program; strand = 0; event = e }) h ds' (Showing turn next)
  shown_line x place next look e cs there next_is is look_there e_is =
      subst (λ (n : ℕ). TellsStrandLine follows due_at memory programs detaches ds lines s.tellers cs cs (record { tick = turn.due; program = turn.program; strand = n; event = e }) h ds' (Showing turn next))
      (ap (strand_in 0) e_is) (record {
        stands = record {
          tellers = s.tellers;
          wide = s.wide;
          as_many = s.as_many;
          each = s.each;
          dues = s.dues;
          detaches_are = s.detaches_are;
          at = (x, there, shown_on x place next look e there next_is is look_there e_is);
        };
        met = [];
        meets = meets_none turn.program _ s.tellers;
        takes = shown_takes programs h.programs x turn.due turn.program e look.at _ cs s.as_many there e_is;
      })

-- ---- whether there is one

pub looks_left : (program : ℕ) (shows : List Show) (from place : ℕ) → IsNextShow program shows from place → looks_of program (drop from shows) ≡ [] → ⊥
looks_left program shows from place is out = let bad : [] ≡ look_of is.show ∷ looks_of program (drop (suc place) shows) = sym out ∙ is.first in cc

pub none_out : {L E : Type 0} (A B : Type 0) (r : Result (Option L) E) → B → IfOk r (λ o. MatchOption o A (λ l. A → ⊥)) → IfOk r (λ o. MatchOption o (A × B) (λ l. A → B → ⊥))
none_out A B (Ok (Some l)) b h = λ x y. h x
none_out A B (Ok None) b h = (h, b)
none_out A B (Err e) b h = tt

-- a turn that begins behind what was shown of memory
pub begun_behind : (turn : Turn) (from b b' : ℕ) (r : Option LineValue) → BegunNext Between b b' r → BegunNext (Showing turn from) b b' r
begun_behind turn from b b' None h = tt
begun_behind turn from b b' (Some l) h = inl h
