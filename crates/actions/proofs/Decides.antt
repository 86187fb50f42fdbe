-- What is decided of an event is what the event means.
use mathlib.Core.Path.{◌≡◌, sym}
use Rattle.model.specs.declared.Machine.{Machine}
use Rattle.model.specs.declared.Event.{Event}
use Rattle.model.specs.declared.Event.TheVariants.{HostWrite, HostRead, BayWord, Insertion, Removal, Signal, Terminal, Ac, Tick}
use Rattle.actions.specs.Meaning.{meant, meant_by}
use Rattle.actions.specs.Decision.{decided}
use Rattle.actions.proofs.Faults.{on_insertion, on_removal, on_signal, on_terminal, on_ac, on_tick}
use Rattle.actions.proofs.Senders.{host_writes, host_reads, bay_sends}

pub decides : (m : Machine) (e : Event) → meant_by m (decided m e) ≡ meant m e
unfolding meant_by
decides m (HostWrite address code w) = host_writes m address code w
decides m (HostRead address code) = host_reads m address code
decides m (BayWord b code w) = bay_sends m b code w
decides m (Insertion b) = on_insertion m b
decides m (Removal b) = on_removal m b
decides m (Signal b ohms) = on_signal m b ohms
decides m (Terminal b millivolts) = on_terminal m b millivolts
decides m (Ac present) = sym (on_ac m present)
decides m Tick = sym (on_tick m)
