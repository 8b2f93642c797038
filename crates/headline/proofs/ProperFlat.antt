-- Flat configurations are proper, and quiet stretches of the flat module are what the headline asks for.
use Rattle.std.proofs.Common.{◌≡◌, ℕ, suc, ◌<◌, ◌≤◌, List, length, refl, sym, ◌∙◌, subst}
use Rattle.wa_types.specs.Syntax.{Plain, basic, local_get, local_set, local_tee, br, br_if, br_table, return, unreachable, call, call_indirect, Code, done, plain, nest, branch}
use Rattle.wa_types.specs.declared.values.ValType.{ValType}
use Rattle.wa_types.specs.declared.values.Value.{Value}
use Rattle.wa_model.specs.Configuration.{Configuration}
use Rattle.run_theory.specs.Fitting.{Fits, NextFits}
use Rattle.run_theory.specs.Growth.{CodeNamed, ConfigNamed, PlainNamed, NextNamed, Spaces, spaces_of}
use Rattle.wa_model.specs.Step.{steps, param_count, step}
use Rattle.wa_model.specs.Store.{Store}
use Rattle.wa_model.specs.Untouched.{StaysOff, next_ranges}
use Rattle.wa_model.proofs.StayingOff.{nothing_off}
use Rattle.run_theory.proofs.FittingSteps.{steps_fit}
use Rattle.guard_runs.specs.Alike.{Setting, sides_of}
use Rattle.guard_runs.specs.Beside.{Proper, ProperCode, ProperPlain}
use Rattle.guard_runs.specs.Proper as P
use Rattle.guard_runs.proofs.ProperCode.{named_so, proper_law}
use Rattle.headline.specs.FlatLaw.{Still, stays, moves}
use Rattle.headline.specs.World.{setting}
use Rattle.headline.specs.Beside as B
use Rattle.headline.specs.Beside.{QuietGoes}
use Rattle.headline.specs.Core.{Core, CoreFits, world_of}
use Rattle.headline.proofs.Spaces.{n, spaces_are, steps_same, grown_type, grown_func_type, funcs_are, types_are}

module _ (k : Core) (fit : CoreFits k) (top : ℕ) where
  abbrev pub v : Setting
  v = setting (world_of k) top

  -- the same over the flat module alone
  abbrev alone : Setting
  alone = record v { flat = k.flat }

  too_plain : (s : Store) (ls ops : List Value) (p : Plain) → ProperPlain (sides_of alone) s ls ops p → ProperPlain (sides_of v) s ls ops p
  too_plain s ls ops (basic x) h = h
  too_plain s ls ops (local_get x) h = h
  too_plain s ls ops (local_set x) h = h
  too_plain s ls ops (local_tee x) h = h
  too_plain s ls ops (br l) h = tt
  too_plain s ls ops (br_if l) h = tt
  too_plain s ls ops (br_table labels l) h = tt
  too_plain s ls ops return h = tt
  too_plain s ls ops unreachable h = tt
  too_plain s ls ops (call x) h = (h.0, subst (λ t. param_count t ≤ length ops) (sym (grown_func_type k fit x (subst (λ i. x < i) (sym (funcs_are k fit)) h.0))) h.1)
  too_plain s ls ops (call_indirect t) h = (h.0, subst (λ z. suc (param_count z) ≤ length ops) (sym (grown_type k fit t (subst (λ i. t < i) (sym (types_are k fit)) h.0))) h.1)

  too_code : (s : Store) (ls ops : List Value) (code : Code) → ProperCode (sides_of alone) s ls ops code → ProperCode (sides_of v) s ls ops code
  too_code s ls ops done h = tt
  too_code s ls ops (plain p rest) h = too_plain s ls ops p h
  too_code s ls ops (nest y r body rest) h = tt
  too_code s ls ops (branch r a b rest) h = tt

  named_next : (code : Code) → CodeNamed (n k fit) code → P.NextNamed alone code
  named_next done h = tt
  named_next (plain p rest) h = named_so alone p rest (subst (λ (z : Spaces). PlainNamed z p) (spaces_are k fit) h.0)
  named_next (nest y r body rest) h = tt
  named_next (branch r a b rest) h = tt

  pub proper_here : (outs : List ValType) (c : Configuration) → Fits k.flat outs c → ConfigNamed (spaces_of k.flat) c → StaysOff k.plan.area (length c.store.memory) (next_ranges c)
      → Proper (sides_of v) c
  proper_here outs c fits named off = too_code c.store c.here.locals c.here.operands c.here.code (proper_law alone outs c fits (named_next c.here.code named.here.code) off)

  -- ---- stretches

  -- what is known of a flat configuration
  pub record FlatOk (outs : List ValType) (c : Configuration) : Type 0 where
    pub fits : Fits k.flat outs c
    pub named : ConfigNamed (spaces_of k.flat) c

  -- a reduction keeps it
  pub ok_on : (outs : List ValType) (c d : Configuration) (j : ℕ) → FlatOk outs c → step k.flat c ≡ steps j d → FlatOk outs d
  ok_on outs c d j ok e = record {
    fits = subst (NextFits k.flat outs) e (steps_fit k.flat outs c fit.flat_valid ok.fits);
    named = subst (NextNamed (spaces_of k.flat)) e (steps_same k fit c ok.named).1;
  }

  pub quiet_ok : (outs : List ValType) (c d : Configuration) (m : ℕ) → FlatOk outs c → QuietGoes k.flat c m d → FlatOk outs d
  quiet_ok outs c _ _ ok B.stays = ok
  quiet_ok outs c d m ok (B.moves {d = c2} {k = j} {n = n2} e quiet keep level rest em) = quiet_ok outs c2 d n2 (ok_on outs c c2 j ok e) rest

  pub quiet_keeps : (c d : Configuration) (m : ℕ) → QuietGoes k.flat c m d → d.store ≡ c.store
  quiet_keeps c _ _ B.stays = refl
  quiet_keeps c d m (B.moves {d = c2} {n = n2} e quiet keep level rest em) = quiet_keeps c2 d n2 rest ∙ keep

  pub still_of : (outs : List ValType) (c d : Configuration) (m : ℕ) → FlatOk outs c → QuietGoes k.flat c m d → Still v c m d
  still_of outs c _ _ ok B.stays = stays
  still_of outs c d m ok (B.moves {d = c2} {k = j} {n = n2} e quiet keep level rest em) =
      let off : StaysOff k.plan.area (length c.store.memory) (next_ranges c) = subst (StaysOff k.plan.area (length c.store.memory)) (sym quiet) (nothing_off k.plan.area (length c.store.memory)) in
      moves (proper_here outs c ok.fits ok.named off) ((steps_same k fit c ok.named).0 ∙ e) keep level (still_of outs c2 d n2 (ok_on outs c c2 j ok e) rest) em
