-- The step in between that a policy chooses: configurations of the original that differ in what is never read.
use Rattle.headline.specs.World.{World, base}
use Rattle.headline.specs.LiveLaw.{L2, LiveLaw, LiveNext, W2, live_asks, live_returns, live_steps, live_stuck, live_traps}
use Rattle.frame_laws.specs.Suspended.{AllStandFor}
use Rattle.headline.specs.FlatLaw.{AllWeigh, FlatLaw, FlatNext, FlatOn}
use Rattle.std.proofs.Common.{◌+◌, All, None, [], ap, length, refl, subst, sym, ℕ, ◌∙◌, ◌≡◌}
use Rattle.std.specs.Option.{option_to_list}
use Rattle.wa_model.specs.Behaves.{StandsNumbered}
use Rattle.wa_model.specs.Blocking.{fault_of, poked, resumed}
use Rattle.wa_model.specs.Configuration.{Configuration, stack_of}
use Rattle.wa_model.specs.Step.{Next, asks, entered, returns, step, steps, stuck, traps}
use Rattle.wa_model.specs.Store.{Store}
use Rattle.wa_model.specs.Untouched.{StaysOff, next_ranges}
use Rattle.wa_types.specs.Modules.{func_type_at}

-- equality is such a relation: the policy that saves all
pub equal_lives : (w : World) (W : (top import : ℕ) → Configuration → Configuration → Type 0) → LiveLaw w (λ c d. c ≡ d) W
equal_lives w W = record {
  same = λ c. refl;
  on = λ c d e p q. p ∙ q;
  store = λ c d p. ap (λ (z : Configuration). z.store) (sym p);
  reach = λ c d p. ap next_ranges (sym p);
  steps_keep = λ c d p. subst (λ z. LiveNext (λ c d. c ≡ d) (step (base w) c) (step (base w) z)) p (self (step (base w) c));
  resumes = λ c d s vs p. ap (λ (z : Configuration). resumed z s vs) p;
  numbered = λ c d p h. subst (λ z. All (StandsNumbered w.original w.settings w.which) (stack_of (base w) z)) p h;
  stand = λ top i c d f ws p wt h. subst (λ z. AllStandFor w.original w.settings w.which ws (stack_of (base w) z)) (sym p) h;
  weigh = λ c d n ws p h. subst (λ z. AllWeigh w.original n ws (stack_of (base w) z)) (sym p) h;
}
  where
    self : (o : Next) → LiveNext (λ c d. c ≡ d) o o
    self (steps k c) = live_steps refl
    self (asks k i args c) = live_asks refl
    self (returns k vs s) = live_returns
    self (traps k t s) = live_traps
    self stuck = live_stuck

module _ (w : World) (Live : Configuration → Configuration → Type 0) (L : (top spare : ℕ) → Configuration → Configuration → Type 0) (W : (top import : ℕ) → Configuration → Configuration
    → Type 0) (G : Store → Type 0) where
  abbrev pub Eq : Configuration → Configuration → Type 0
  Eq c d = c ≡ d

  module _ (lv : LiveLaw w Live W) (law : FlatLaw w Live L W G) where
    next_too : (top spare : ℕ) (o o' : Next) (f : Configuration) → LiveNext Live o o' → FlatNext w Live L W G top spare o' f → FlatNext w Eq (L2 Live L W) (W2 Live L W) G top spare o f
    next_too top spare _ _ f (live_steps {c = c} {d = d} live) fs = record {
      n1 = fs.n1;
      mid = fs.mid;
      before = fs.before;
      proper = fs.proper;
      j = fs.j;
      after = fs.after;
      acts = fs.acts;
      store = fs.store ∙ lv.store c d live;
      n2 = fs.n2;
      to = fs.to;
      behind = fs.behind;
      least = fs.least;
      left = fs.left;
      most = fs.most;
      link = record { chosen = d; live = live; link = fs.link };
    }
    next_too top spare _ _ f (live_asks {c = c} {d = d} live) fs = record {
      n = fs.n;
      at = fs.at;
      before = fs.before;
      j = fs.j;
      least = fs.least;
      most = fs.most;
      proper = fs.proper;
      to = fs.to;
      asks_there = fs.asks_there;
      waits = record { chosen = d; live = live; waits = fs.waits };
    }
    next_too top spare _ _ f live_returns fs = record {
      n = fs.n;
      at = fs.at;
      before = fs.before;
      j = fs.j;
      least = fs.least;
      most = fs.most;
      proper = fs.proper;
      returns_there =
          fs.returns_there;
      good = fs.good;
    }
    next_too top spare _ _ f live_traps fs = record { n = fs.n; at = fs.at; before = fs.before; j = fs.j; least = fs.least; most = fs.most; proper = fs.proper; traps_there = fs.traps_there }
    next_too top spare _ _ f live_stuck fs = fs

    -- So what flattening owes with such a step in between it owes without one.
    pub both : FlatLaw w Eq (L2 Live L W) (W2 Live L W) G
    both = record {
      store = λ top spare c f h. law.store top spare h.chosen f h.link ∙ lv.store c h.chosen h.live;
      good = λ top spare c f h. subst G (lv.store c h.chosen h.live) (law.good top spare h.chosen f h.link);
      waits_store = λ top i d f h. law.waits_store top i h.chosen f h.waits ∙ lv.store d h.chosen h.live;
      waits_good = λ top i d f h. subst G (lv.store d h.chosen h.live) (law.waits_good top i h.chosen f h.waits);
      waits_known = λ top i d f h. law.waits_known top i h.chosen f h.waits;
      small = law.small;
      reduces = λ top spare c f h off.
          let st = lv.store c h.chosen h.live in
          let off2 : StaysOff w.plan.area (length (h.chosen).store.memory) (next_ranges h.chosen) =
          subst (λ o. StaysOff w.plan.area (length (h.chosen).store.memory) o) (sym (lv.reach c h.chosen h.live))
          (subst (λ (s : Store). StaysOff w.plan.area (length s.memory) (next_ranges c)) (sym st) off) in
          next_too top spare (step (base w) c) (step (base w) h.chosen) f (lv.steps_keep c h.chosen h.live) (law.reduces top spare h.chosen f h.link off2);
      answered = λ top i d f start a v h fits told none.
          let st = lv.store d h.chosen h.live in
          let none2 = subst (λ (s : Store). fault_of (func_type_at (base w) i).results (length s.memory) w.plan start i a ≡ None) (sym st) none in
          let fo = subst (λ (s : Store). FlatOn w Live L W G top (4 + w.tests) (resumed h.chosen (poked s a.pokes) (option_to_list v)) (resumed f (poked s a.pokes) (option_to_list v))) st
          (law.answered top i h.chosen f start a v h.waits fits told none2) in
          record {
            n = fo.n;
            left = fo.left;
            few = fo.few;
            to = fo.to;
            goes = fo.goes;
            link =
                record {
                  chosen = resumed h.chosen (poked d.store a.pokes) (option_to_list v);
                  live =
                      lv.resumes d h.chosen (poked d.store a.pokes) (option_to_list v) h.live;
                  link = fo.link;
                };
          };
      enters = λ x args f s lw good there.
          let fe = law.enters x args f s lw good there in
          let on = fe.on in
          record {
            func = fe.func;
            defined = fe.defined;
            func' = fe.func';
            defined' = fe.defined';
            known = fe.known;
            count = fe.count;
            on =
                record {
                  n = on.n;
                  left = on.left;
                  few = on.few;
                  to = on.to;
                  goes = on.goes;
                  link =
                      record { chosen = entered s [] args x f; live = lv.same (entered s [] args x f); link = on.link };
                };
          };
      poked_good = law.poked_good;
      numbers = λ top i d f h nums. law.numbers top i h.chosen f h.waits (lv.numbered d h.chosen h.live nums);
      stands = λ top i d f us' st h nums fit.
          let fs = law.stands top i h.chosen f us' st h.waits (lv.numbered d h.chosen h.live nums) fit in
          record { may = fs.may; stand = lv.stand top i d h.chosen f _ h.live h.waits fs.stand; weigh = lv.weigh d h.chosen _ _ h.live fs.weigh };
      again = λ top i d f a us h nums same us' st fit.
          let ag = law.again top i h.chosen f a us h.waits (lv.numbered d h.chosen h.live nums) same us' st fit in
          record { chosen = d; live = refl; waits = record { chosen = ag.chosen; live = lv.on d h.chosen ag.chosen h.live ag.live; waits = ag.waits } };
    }
