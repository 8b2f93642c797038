-- What flattening owes speaks of stores: the same law over stores that are told otherwise.
use Rattle.std.proofs.Common.{List, [], ℕ, ◌+◌, ◌∷◌}
use Rattle.wa_types.specs.Syntax.{Func}
use Rattle.wa_types.specs.declared.values.Value.{Value}
use Rattle.wa_model.specs.Configuration.{Activation, Configuration}
use Rattle.wa_model.specs.Step.{Next, asks, entered, returns, steps, stuck, traps}
use Rattle.wa_model.specs.Store.{Store}
use Rattle.guard_runs.specs.Stopped.{Stopped}
use Rattle.headline.specs.FlatLaw.{FlatAgain, FlatEnters, FlatLaw, FlatNext, FlatOn, FlatStands}
use Rattle.headline.specs.World.{World, setting}

module _ (w : World) (Live : Configuration → Configuration → Type 0) (L : (top spare : ℕ) → Configuration → Configuration → Type 0) (W : (top import : ℕ) → Configuration → Configuration → Type 0)
    (G H : Store → Type 0) (to : (s : Store) → G s → H s) (from : (s : Store) → H s → G s) where
  next_of : (top spare : ℕ) (o : Next) (f : Configuration) → FlatNext w Live L W G top spare o f → FlatNext w Live L W H top spare o f
  next_of top spare (steps k d) f h = record {
    n1 = h.n1;
    mid = h.mid;
    before = h.before;
    proper = h.proper;
    j = h.j;
    after = h.after;
    acts = h.acts;
    store = h.store;
    n2 = h.n2;
    to = h.to;
    behind = h.behind;
    least = h.least;
    left = h.left;
    most = h.most;
    link = h.link;
  }
  next_of top spare (asks k i args d) f h =
      record { n = h.n; at = h.at; before = h.before; j = h.j; least = h.least; most = h.most; proper = h.proper; to = h.to; asks_there = h.asks_there; waits = h.waits }
  next_of top spare (returns k vs s) f h =
      record { n = h.n; at = h.at; before = h.before; j = h.j; least = h.least; most = h.most; proper = h.proper; returns_there = h.returns_there; good = to s h.good }
  next_of top spare (traps k t s) f h = record { n = h.n; at = h.at; before = h.before; j = h.j; least = h.least; most = h.most; proper = h.proper; traps_there = h.traps_there }
  next_of top spare stuck f h = absurd h

  on_of : (top most : ℕ) (c f : Configuration) → FlatOn w Live L W G top most c f → FlatOn w Live L W H top most c f
  on_of top most c f h = record { n = h.n; left = h.left; few = h.few; to = h.to; goes = h.goes; link = h.link }

  enters_of : (x : ℕ) (args : List Value) (f : Func) (s : Store) → FlatEnters w Live L W G x args f s → FlatEnters w Live L W H x args f s
  enters_of x args f s h = record {
    func = h.func;
    defined = h.defined;
    func' = h.func';
    defined' = h.defined';
    known = h.known;
    count = h.count;
    on = on_of x 16 (entered s [] args x f) (entered s [] args x h.func) h.on;
  }

  stands_of : (top i : ℕ) (d f : Configuration) (us' : List Activation) (st : Stopped (setting w top) i (f.here ∷ f.under) us') → FlatStands w Live L W G top i d f us' st
      → FlatStands w Live L W H top i d f us' st
  stands_of top i d f us' st h = record { may = h.may; stand = h.stand; weigh = h.weigh }

  again_of : (top i : ℕ) (d f : Configuration) (a : Activation) (us : List Activation) → FlatAgain w Live L W G top i d f a us → FlatAgain w Live L W H top i d f a us
  again_of top i d f a us h = record { chosen = h.chosen; live = h.live; waits = h.waits }

  -- THE LAW over stores that are told otherwise
  pub same_law : FlatLaw w Live L W G → FlatLaw w Live L W H
  same_law law = record {
    store = law.store;
    good = λ top spare c f l. to c.store (law.good top spare c f l);
    waits_store = law.waits_store;
    waits_good = λ top i d f l. to d.store (law.waits_good top i d f l);
    waits_known = law.waits_known;
    small = λ s g. law.small s (from s g);
    reduces = λ top spare c f l off. next_of top spare _ f (law.reduces top spare c f l off);
    answered = λ top i d f start a v wt fits told none. on_of top (4 + w.tests) _ _ (law.answered top i d f start a v wt fits told none);
    enters = λ x args f s lawful g there. enters_of x args f s (law.enters x args f s lawful (from s g) there);
    poked_good = λ i s start a g fits none. to _ (law.poked_good i s start a (from s g) fits none);
    numbers = law.numbers;
    stands = λ top i d f us' st wt nums fit. stands_of top i d f us' st (law.stands top i d f us' st wt nums fit);
    again = λ top i d f a us wt nums same us' st fit. again_of top i d f a us (law.again top i d f a us wt nums same us' st fit);
  }
