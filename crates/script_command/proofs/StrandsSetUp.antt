-- Programs with strands that are set up can be hosted.
use Rattle.std.proofs.Common.{◌≡◌, ℕ, zero, suc, ◌+◌, ◌<◌, List, [], ◌∷◌, ◌++◌, length, map, Option, Some, None, Bool, true, false, if◌then◌else◌, nat_eq, slice_get, get_or, take, All, append_assoc, refl, sym, ap, ◌∙◌, subst, arith}
use Rattle.std.specs.List.{cons_option}
use Rattle.std.proofs.lemmas.Bool.Decides.{nat_tests}
use Rattle.std.proofs.lemmas.List.{append-nil, length-map, map_more}
use Rattle.std.proofs.lemmas.List.Elements.{All-cons, All-nil, filter_map-append}
use Rattle.wa_model.specs.declared.answers.Detach.{Detach}
use Rattle.world_laws.proofs.Places.{of_map, zip_both}
use Rattle.world_model.specs.World.{Device, Look}
use Rattle.event_order.specs.declared.shows.Show.{Show}
use Rattle.event_order.specs.Looks.{looks_of}
use Rattle.event_order.specs.Looks as E
use Rattle.script_model.specs.Transcript as T
use Rattle.strand_laws.specs.StrandWorld.{ProtocolStrandWorld, StrandLine, StrandsInWorld}
use Rattle.strand_laws.specs.ToldStrands.{starting}
use Rattle.strand_laws.specs.Weaving.{HaveStrands}
use Rattle.strand_laws.proofs.ToldGoesOn.{worlds_end}
use Rattle.strand_host.specs.declared.program.StrandProgram.{StrandProgram}
use Rattle.strand_host.specs.StrandHosts.{AreSetUpStrands, due_in}
use Rattle.strand_host.specs.StrandPrograms.{FollowsStrands}
use Rattle.strand_host.specs.StrandStanding.{IsHosted}
use Rattle.strand_host.proofs.FollowsTold.{follows_told_so}
use Rattle.strand_host.proofs.HostedStrands.{is_due_by}
use Rattle.script_command.specs.declared.strand_parting.PartedStrands.{PartedStrands}
use Rattle.script_command.specs.declared.strand_starts.MemoryRange.{MemoryRange}
use Rattle.script_command.specs.declared.strand_starts.StagedStrands.{StagedStrands}
use Rattle.script_command.specs.StrandParts.{AreStrandsParted, NamesEach, names_in, range_at, ranges_from}
use Rattle.script_command.specs.StrandStages.{AreStrandsStaged, IsStrandsStaged, range_look}
use Rattle.script_command.specs.StrandWorldsTold.{NamedStrands, all_strand_names, strand_worlds}

-- ---- the looks of one program among those of several

same_number : (n : ℕ) → nat_eq n n ≡ true
same_number n = grind (arith, nat_tests)

lower_number : (n k : ℕ) → n < k → nat_eq n k ≡ false
lower_number n k h = grind (arith, nat_tests)

higher_number : (n k : ℕ) → k < n → nat_eq n k ≡ false
higher_number n k h = grind (arith, nat_tests)

abbrev only_if : Bool → Look → Option Look
only_if b x = if b then Some x else None

own_looks : (n : ℕ) (xs : List MemoryRange) → looks_of n (map (range_at n) xs) ≡ map range_look xs
own_looks n [] = refl
own_looks n (x ∷ xs) =
    ap (λ (b : Bool). cons_option (only_if b (range_look x)) (looks_of n (map (range_at n) xs))) (same_number n) ∙ ap (λ (l : List Look). range_look x ∷ l) (own_looks n xs)

other_looks : (n k : ℕ) (xs : List MemoryRange) → nat_eq n k ≡ false → looks_of k (map (range_at n) xs) ≡ []
other_looks n k [] other = refl
other_looks n k (x ∷ xs) other =
    ap (λ (b : Bool). cons_option (only_if b (range_look x)) (looks_of k (map (range_at n) xs))) other ∙ other_looks n k xs other

later_looks : (n k : ℕ) (ss : List StagedStrands) → k < n → looks_of k (ranges_from n ss) ≡ []
later_looks n k [] h = refl
later_looks n k (s ∷ ss) h =
    filter_map-append (E.look_at k) (map (range_at n) s.shows.items) (ranges_from (suc n) ss)
    ∙ ap (λ (l : List Look). l ++ looks_of k (ranges_from (suc n) ss)) (other_looks n k s.shows.items (higher_number n k h))
    ∙ later_looks (suc n) k ss (omega (arith, h))

-- those of one program among the shows of all
own_of : (n : ℕ) (ss : List StagedStrands) (i : ℕ) (s : StagedStrands) → slice_get ss i ≡ Some s → looks_of (n + i) (ranges_from n ss) ≡ map range_look s.shows.items
own_of n [] i s e = cc
own_of n (x ∷ ss) zero s e =
    let first : x ≡ s = cc in
    let here : n + 0 ≡ n = omega arith in
    ap (λ (k : ℕ). looks_of k (ranges_from n (x ∷ ss))) here
    ∙ filter_map-append (E.look_at n) (map (range_at n) x.shows.items) (ranges_from (suc n) ss)
    ∙ ap (λ (l : List Look). looks_of n (map (range_at n) x.shows.items) ++ l) (later_looks (suc n) n ss (omega arith))
    ∙ append-nil (looks_of n (map (range_at n) x.shows.items))
    ∙ own_looks n x.shows.items
    ∙ ap (λ (y : StagedStrands). map range_look y.shows.items) first
own_of n (x ∷ ss) (suc i) s e =
    let further : n + suc i ≡ suc n + i = omega arith in
    filter_map-append (E.look_at (n + suc i)) (map (range_at n) x.shows.items) (ranges_from (suc n) ss)
    ∙ ap (λ (l : List Look). l ++ looks_of (n + suc i) (ranges_from (suc n) ss)) (other_looks n (n + suc i) x.shows.items (lower_number n (n + suc i) (omega arith)))
    ∙ ap (λ (k : ℕ). looks_of k (ranges_from (suc n) ss)) further
    ∙ own_of (suc n) ss i s e

own_at : (ss : List StagedStrands) (i : ℕ) (s : StagedStrands) → slice_get ss i ≡ Some s → looks_of i (ranges_from 0 ss) ≡ map range_look s.shows.items
own_at ss i s e =
    let here : i ≡ 0 + i = omega arith in
    ap (λ (k : ℕ). looks_of k (ranges_from 0 ss)) here ∙ own_of 0 ss i s e

-- ---- programs at their start

abbrev programs_of : List StagedStrands → List StrandProgram
programs_of ss = map (λ (s : StagedStrands). s.program) ss

abbrev world_of : NamedStrands → StrandsInWorld
world_of x = x.world

same_length : (xs : List NamedStrands) (ss : List StagedStrands) → AreStrandsStaged xs ss → length ss ≡ length xs
same_length [] [] h = refl
same_length [] (s ∷ ss) h = absurd h
same_length (x ∷ xs) [] h = absurd h
same_length (x ∷ xs) (s ∷ ss) h = ap suc (same_length xs ss h.1)

same_names : (xs : List NamedStrands) (ss : List StagedStrands) → AreStrandsStaged xs ss → map names_in (map (λ (s : StagedStrands). s.names) ss) ≡ all_strand_names xs
same_names [] [] h = refl
same_names [] (s ∷ ss) h = absurd h
same_names (x ∷ xs) [] h = absurd h
same_names (x ∷ xs) (s ∷ ss) h =
    ap (λ (n : List T.Names). n ∷ map names_in (map (λ (s : StagedStrands). s.names) ss)) h.0.names ∙ ap (λ (l : List (List T.Names)). x.names ∷ l) (same_names xs ss h.1)

-- each strand has names
pub names_each : (xs : List NamedStrands) (ss : List StagedStrands) → AreStrandsStaged xs ss → All NamesEach xs
names_each [] [] h = All-nil NamesEach
names_each [] (s ∷ ss) h = absurd h
names_each (x ∷ xs) [] h = absurd h
names_each (x ∷ xs) (s ∷ ss) h = All-cons NamesEach x xs h.0.named (names_each xs ss h.1)

abbrev Starts : (number : ℕ) → List Show → StrandsInWorld → StrandProgram → Type 0
Starts number shows g x = IsHosted (λ x g t. FollowsStrands g t x) shows number g (starting g) x

are_set_up : (xs : List NamedStrands) (ss : List StagedStrands) → AreStrandsStaged xs ss → AreSetUpStrands (strand_worlds xs) (ranges_from 0 ss) (programs_of ss)
are_set_up xs ss h = record {
  wide = length-map ss (λ (s : StagedStrands). s.program) ∙ same_length xs ss h ∙ sym (length-map xs world_of);
  each = λ i g y eg ey.
      let x = of_map world_of xs i g eg in
      let s = of_map (λ (s : StagedStrands). s.program) ss i y ey in
      let is = zip_both IsStrandsStaged xs ss h i x.0 s.0 x.1 s.1 in
      subst (λ (v : StrandsInWorld). Starts i (ranges_from 0 ss) v y) x.2
      (subst (λ (z : StrandProgram). Starts i (ranges_from 0 ss) x.0.world z) s.2 (record { follow = is.follows; looks = sym is.shows ∙ sym (own_at ss i s.0 s.1) }));
}

pub parted_set_up : (xs : List NamedStrands) (ss : List StagedStrands) (z : PartedStrands) → AreStrandsStaged xs ss → AreStrandsParted ss z
    → AreSetUpStrands (strand_worlds xs) z.shows.items z.programs.items
parted_set_up xs ss z h parted =
    subst (λ (l : List StrandProgram). AreSetUpStrands (strand_worlds xs) z.shows.items l) (sym parted.programs)
    (subst (λ (l : List Show). AreSetUpStrands (strand_worlds xs) l (programs_of ss)) (sym parted.shows) (are_set_up xs ss h))

pub parted_names : (xs : List NamedStrands) (ss : List StagedStrands) (z : PartedStrands) → AreStrandsStaged xs ss → AreStrandsParted ss z → map names_in z.names.items ≡ all_strand_names xs
parted_names xs ss z h parted = ap (map names_in) parted.names ∙ same_names xs ss h

-- ---- before any line

have_strands : (xs : List NamedStrands) (ss : List StagedStrands) → AreStrandsStaged xs ss → HaveStrands (strand_worlds xs)
have_strands [] [] h = All-nil (λ (g : StrandsInWorld). 0 < length g.program.strands)
have_strands [] (s ∷ ss) h = absurd h
have_strands (x ∷ xs) [] h = absurd h
have_strands (x ∷ xs) (s ∷ ss) h =
    All-cons (λ (g : StrandsInWorld). 0 < length g.program.strands) x.world (strand_worlds xs)
    (follows_told_so x.world (starting x.world) s.program (due_in s.program) h.0.follows (is_due_by s.program.dues.items s.program.state)).some (have_strands xs ss h.1)

-- what isn't told yet begins a run of the world
pub begins_no_strands : (xs : List NamedStrands) (ss : List StagedStrands) (detaches : List Detach) (ds : List Device) → AreStrandsStaged xs ss
    → (more : List StrandLine) × (last : List Device) × ProtocolStrandWorld (strand_worlds xs) detaches ds more last
begins_no_strands xs ss detaches ds h = worlds_end (strand_worlds xs) detaches ds (have_strands xs ss h)

-- ---- what is shown, one range after another

pub ranges_more : (f : MemoryRange → Show) (old now new : List Show) (xs : List MemoryRange) (i : ℕ) (d : MemoryRange) → new ≡ now ++ f (get_or xs i d) ∷ [] → i < length xs → now ≡ old ++ map f (take i xs)
    → new ≡ old ++ map f (take (i + 1) xs)
ranges_more f old now new xs i d is lt before =
    is ∙ ap (λ (l : List Show). l ++ f (get_or xs i d) ∷ []) before ∙ append_assoc old (map f (take i xs)) (f (get_or xs i d) ∷ [])
    ∙ ap (λ (l : List Show). old ++ l) (sym (map_more f xs i d lt))
