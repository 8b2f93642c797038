-- Strands that wait, while another has its turn.
use Rattle.std.proofs.Common.{◌≡◌, ℕ, ◌≤◌, List, length, Option, Some, None, sym, ◌∙◌, subst, arith}
use Rattle.std.specs.Prelude.{slice_get}
use Rattle.wa_model.specs.Protocol.{Held}
use Rattle.pause_host.specs.declared.stages.Setting.{Setting}
use Rattle.strand_laws.specs.StrandWorld.{StrandsInWorld}
use Rattle.strand_laws.specs.ToldStrands.{ProgramTeller, StrandTeller}
use Rattle.strand_laws.specs.Woven.{Thread}
use Rattle.strand_host.specs.StrandPrograms.{Row, RowIs, Stock, WaitsWell}
use Rattle.strand_host.specs.declared.strands.Strand.{Strand}

-- over a memory that is longer from the first
pub waits_longer : (g : StrandsInWorld) (s : Strand) (h : Held) (low low' : ℕ) → low ≤ low' → WaitsWell g s h low → WaitsWell g s h low'
waits_longer g s h low low' le w = record {
  place = w.place;
  fits = λ st fits (more : low' ≤ length st.memory). w.fits st fits (omega arith);
  holds = λ st (more : low' ≤ length st.memory). w.holds st (omega arith);
  behind_start = w.behind_start;
}

row_is_longer : (g : StrandsInWorld) (i : ℕ) (setting : Setting) (low low' : ℕ) (slot : Option Strand) (due : Option ℕ) (teller : StrandTeller) (thread : Thread Held) → low ≤ low'
    → RowIs g i setting low slot due teller thread → RowIs g i setting low' slot due teller thread
row_is_longer g i setting low low' None due teller thread le r = r
row_is_longer g i setting low low' (Some s) due teller thread le r = (r.0, r.1, r.2, r.3, waits_longer g s r.2 low low' le r.4)

-- A strand that waits does so while others change.
pub row_stays : (g : StrandsInWorld) (t t' : ProgramTeller) (x x' : Stock) (ts ts' : List (Thread Held)) (low low' i : ℕ) → low ≤ low' → x'.setting ≡ x.setting
    → slice_get x'.strands i ≡ slice_get x.strands i → slice_get x'.dues i ≡ slice_get x.dues i → slice_get t'.strands i ≡ slice_get t.strands i → slice_get ts' i ≡ slice_get ts i
    → Row g t x ts low i → Row g t' x' ts' low' i
row_stays g t t' x x' ts ts' low low' i le setting slots dues tellers threads r = record {
  slot = r.slot;
  slot_is = slots ∙ r.slot_is;
  due = r.due;
  due_is = dues ∙ r.due_is;
  teller = r.teller;
  teller_is = tellers ∙ r.teller_is;
  thread = r.thread;
  thread_is = threads ∙ r.thread_is;
  row = subst (λ st. RowIs g i st low' r.slot r.due r.teller r.thread) (sym setting) (row_is_longer g i x.setting low low' r.slot r.due r.teller r.thread le r.row);
}
