-- A module's own reductions, without a host: stretches of them are stretches of the runs that hold them. Each configuration
-- that a reduction leaves may be asked to pass a test, such as one on the bytes that the reduction touches.
use Rattle.std.proofs.Common.{◌≡◌, ℕ, suc, ◌+◌, List, [], Bool, true, false, refl, ap, ◌∙◌, arith}
use Rattle.wa_types.specs.Syntax.{Module}
use Rattle.wa_model.specs.Machine.{goes, Leads, stays, moves}
use Rattle.wa_model.specs.Configuration.{Configuration}
use Rattle.wa_model.specs.Step.{Next, steps, asks, returns, traps, stuck, step}
use Rattle.wa_model.specs.Plan.{Plan}
use Rattle.wa_model.specs.Blocking.{Note, Task, Left, runs, by_step, blocking}
use Rattle.wa_model.specs.Protocol.{Exports, Phase, is_running, unwinds, rewinds, Then, busy, aside, busy_step, aside_step, protocol}
use Rattle.run_theory.specs.Alone.{alone_next, alone}
use Rattle.run_theory.proofs.Runs.{leads_on}

-- reductions of this total cost, all from configurations that pass
pub record Comes (ok : Configuration → Bool) (m : Module) (c : Configuration) (n : ℕ) (d : Configuration) : Type 0 where
  pub by : Leads (alone ok m) c n [] d

module _ (ok : Configuration → Bool) (m : Module) where
  pub none : (c : Configuration) → Comes ok m c 0 c
  none c = record { by = stays }

  pub one : (k : ℕ) (c d : Configuration) → ok c ≡ true → step m c ≡ steps k d → Comes ok m c (suc k) d
  one k c d t e = record { by = moves (ap (λ b. alone_next b (step m c)) t ∙ ap (alone_next true) e) stays (omega arith) refl }

  pub on : (j k : ℕ) (c d e : Configuration) → Comes ok m c j d → Comes ok m d k e → Comes ok m c (j + k) e
  on j k c d e x y = record { by = leads_on Configuration Note (alone ok m) c d e j k [] [] x.by y.by }

  -- what a move of the module alone is
  moved : (b : Bool) (o : Next) (k : ℕ) (es : List Note) (d : Configuration) → alone_next b o ≡ goes k es d → o ≡ steps k d
  moved true (steps j c) k es d e = let a : goes j [] c ≡ goes k es d = e in let k' : j ≡ k = cc in let d' : c ≡ d = cc in cc
  moved true (asks j import args c) k es d e = cc
  moved true (returns j values s) k es d e = cc
  moved true (traps j trap s) k es d e = cc
  moved true stuck k es d e = cc
  moved false o k es d e = cc

  pub moved_alone : (c : Configuration) (k : ℕ) (es : List Note) (d : Configuration) → alone ok m c ≡ goes k es d → step m c ≡ steps k d
  moved_alone c k es d e = moved (ok c) (step m c) k es d e

  module _ (plan : Plan) where
    leads_blocking : (task : Task) (l : Left) (c d : Configuration) (n : ℕ) (es : List Note) → Leads (alone ok m) c n es d → Leads (blocking m plan) (runs task c l) n [] (runs task d l)
    leads_blocking task l c d _ _ stays = stays
    leads_blocking task l c d _ _ (moves {t = t} {k = k} {es = es} e rest em eg) =
        moves (ap (by_step m plan task l) (moved_alone c k es t e)) (leads_blocking task l t d _ _ rest) em refl

    -- in a run with blocking imports
    pub in_blocking : (task : Task) (l : Left) (c d : Configuration) (n : ℕ) → Comes ok m c n d → Leads (blocking m plan) (runs task c l) n [] (runs task d l)
    in_blocking task l c d n x = leads_blocking task l c d n [] x.by

    module _ (x : Exports) where
      busy_moved : (ph : Phase) (l : Left) (k : ℕ) (d : Configuration) → busy_step m x plan ph l (steps k d) ≡ goes k [] (busy ph d l)
      busy_moved (is_running task) l k d = refl
      busy_moved (unwinds e i a) l k d = refl
      busy_moved (rewinds e i a sp) l k d = refl

      leads_busy : (ph : Phase) (l : Left) (c d : Configuration) (n : ℕ) (es : List Note) → Leads (alone ok m) c n es d → Leads (protocol m x plan) (busy ph c l) n [] (busy ph d l)
      leads_busy ph l c d _ _ stays = stays
      leads_busy ph l c d _ _ (moves {t = t} {k = k} {es = es} e rest em eg) =
          moves (ap (busy_step m x plan ph l) (moved_alone c k es t e) ∙ busy_moved ph l k t) (leads_busy ph l t d _ _ rest) em refl

      -- in a run under the protocol, in any phase
      pub in_busy : (ph : Phase) (l : Left) (c d : Configuration) (n : ℕ) → Comes ok m c n d → Leads (protocol m x plan) (busy ph c l) n [] (busy ph d l)
      in_busy ph l c d n s = leads_busy ph l c d n [] s.by

      leads_aside : (ph : Phase) (th : Then) (l : Left) (c d : Configuration) (n : ℕ) (es : List Note) → Leads (alone ok m) c n es d
          → Leads (protocol m x plan) (aside ph c th l) n [] (aside ph d th l)
      leads_aside ph th l c d _ _ stays = stays
      leads_aside ph th l c d _ _ (moves {t = t} {k = k} {es = es} e rest em eg) =
          moves (ap (aside_step m x plan ph th l) (moved_alone c k es t e)) (leads_aside ph th l t d _ _ rest) em refl

      -- in an export that the host calls
      pub in_aside : (ph : Phase) (th : Then) (l : Left) (c d : Configuration) (n : ℕ) → Comes ok m c n d → Leads (protocol m x plan) (aside ph c th l) n [] (aside ph d th l)
      in_aside ph th l c d n s = leads_aside ph th l c d n [] s.by
