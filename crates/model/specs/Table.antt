-- P1 to P12, and 499 and 500 ohms, whole runs of the program's setup from power-on, and the timers, from a machine that was aged: what is seen after each.
use Rattle.std.specs.Prelude.{ℕ, true, false, List, [], ◌∷◌, ◌++◌, replicate}
use Rattle.model.specs.declared.Machine.{Machine}
use Rattle.model.specs.declared.Event.{Event}
use Rattle.model.specs.declared.Event.TheVariants.{HostWrite, HostRead, BayWord, Insertion, Signal, Ac, Tick}
use Rattle.model.specs.Machines.{program_setup, with_charger}
use Rattle.model.specs.Reads.{output, word_shown}
use Rattle.model.specs.Runs.{run_from, run}

-- AC; a pack in bay 0 with that safety signal; bay 0 connected; a request for 16800 mV and one for that many mA
abbrev pub charge : ℕ → ℕ → List Event
charge ohms milliamps =
    Ac true ∷ Insertion 0 ∷ Signal 0 ohms ∷ HostWrite 0x14 0x01 0xFF1F ∷ BayWord 0 0x15 16800 ∷ BayWord 0 0x14 milliamps ∷ []

-- what is looked at after the events: the output in mA, or the word of SelectorInfo
pub data Look : Type 0 where
  current info : Look

-- what is seen
unfoldable pub seen : Look → Machine → ℕ
seen current m = (output m).milliamps
seen info m = word_shown m (HostRead 0x14 0x04)

-- the events of a run, what is looked at, and what should be seen
pub record Case : Type 0 where
  pub events : List Event
  pub look : Look
  pub value : ℕ

-- P1 to P12, and 499 and 500 ohms in their place
unfoldable pub table : List Case
table =
    -- P1 to P5: requests 2999, 3000, 3001, 65534, 65535 with 3000/2000
    record { events = charge 10000 2999; look = current; value = 2999 }
    ∷ record { events = charge 10000 3000; look = current; value = 3000 }
    ∷ record { events = charge 10000 3001; look = current; value = 3000 }
    ∷ record { events = charge 10000 65534; look = current; value = 3000 }
    ∷ record { events = charge 10000 65535; look = current; value = 2000 }
    -- request (ii) of document 02: ohms 499 yes, 500 no
    ∷ record { events = charge 499 1500; look = current; value = 1500 }
    ∷ record { events = charge 500 1500; look = current; value = 0 }
    -- P6 to P9: ohms 2999 no, 3000 yes, 100000 yes, 100001 no
    ∷ record { events = charge 2999 1500; look = current; value = 0 }
    ∷ record { events = charge 3000 1500; look = current; value = 1500 }
    ∷ record { events = charge 100000 1500; look = current; value = 1500 }
    ∷ record { events = charge 100001 1500; look = current; value = 0 }
    -- P10: 174 ticks after both words the output stands; P11: at 175 it is zero
    ∷ record { events = charge 10000 1500 ++ replicate 174 Tick; look = current; value = 1500 }
    ∷ record { events = charge 10000 1500 ++ replicate 175 Tick; look = current; value = 0 }
    -- P12: SelectorInfo for two bays
    ∷ record { events = []; look = info; value = 0x0113 }
    ∷ []

-- the machine of `charge 10000 1500`, both words 174 ticks old
abbrev pub aged : Machine
aged =
    with_charger (run program_setup (charge 10000 1500))
    (record {
      current = record { word = 1500; age = 174; mark = true };
      voltage = record { word = 16800; age = 174; mark = true };
      hold = false;
      inhibit = false;
      wake = record { age = 174; spent = true };
    })

-- from there on: each request has a timer of its own, which only its own word restarts
unfoldable pub timers : List Case
timers =
    record { events = BayWord 0 0x14 1500 ∷ Tick ∷ []; look = current; value = 0 }
    ∷ record { events = BayWord 0 0x15 16800 ∷ Tick ∷ []; look = current; value = 0 }
    ∷ record { events = BayWord 0 0x14 1400 ∷ BayWord 0 0x15 16800 ∷ Tick ∷ []; look = current; value = 1400 }
    -- a request that ran out can be made anew
    ∷ record { events = replicate 6 Tick ++ BayWord 0 0x14 1400 ∷ BayWord 0 0x15 16800 ∷ []; look = current; value = 1400 }
    ∷ []

-- what is seen in each case, from a machine on
unfoldable pub all_seen : Machine → List Case → List ℕ
all_seen m [] = []
all_seen m (c ∷ cs) = seen c.look (run_from m c.events) ∷ all_seen m cs

-- what should be seen in each case
unfoldable pub all_values : List Case → List ℕ
all_values [] = []
all_values (c ∷ cs) = c.value ∷ all_values cs
