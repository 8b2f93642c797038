-- Which statuses ends have.
use Rattle.std.proofs.Common.{◌≡◌, inl, inr, ℕ, List, [], Option, None, refl}
use Rattle.vault_port.specs.Files.{Files}
use Rattle.transcript.specs.Refused.{status_of}
use Rattle.script_command.specs.declared.way.Way.TheVariants.{Run}
use Rattle.script_command.specs.Ends as E
use Rattle.script_command.specs.Playing as P
use Rattle.script_command.specs.Playing.{bad_line, bad_module, bad_script}
use Rattle.script_command.proofs.Statuses.{end_status}
use Rattle.script_command.specs.SnapshotCalls.{Call, Deed, Output, continues, saves}
use Rattle.script_command.specs.PlainScripts as S
use Rattle.script_command.specs.PlainScripts.{IsUnplayed, has_unsaved, not_run, refusal_for}
use Rattle.script_command.specs.SnapshotTelling.{IsCause, long, unfit, unplayed, unread, unwritten}
use Rattle.script_command.specs.SnapshotEnds.{End, HasEnd, IsOwnStatus, IsStatus, IsWhy, done, memory, refused, sink_fault, status_of_end}

-- what isn't run is refused under `run`
pub run_refused : (files : Option Files) (name : List ℕ) (cause : P.Cause) → IsUnplayed files name (not_run cause) → P.IsRefused Run files name cause
run_refused files name (bad_script r) h = h
run_refused files name (bad_module number r) h = h.0
run_refused files name (bad_line line rule) h = h.0

-- a call of `run` that is refused for it
refused_run : (files : Option Files) (name : List ℕ) (cause : P.Cause) (n : ℕ) → n ≡ status_of (P.refusal_of_cause cause) → P.IsRefused Run files name cause
    → E.HasEnd (E.call Run name files 0 0 0 0 None None [] []) n
refused_run files name cause n e h = record { which = E.refused cause; by_status = e; why = (h, tt, refl) }

module _ (deed : Deed) (n : ℕ) where
  eight : n ≡ 8 → IsStatus deed n
  eight e = inr (inr (inr (inr (inr (inr (inl e))))))

  from_run : E.IsStatus Run n → IsStatus deed n
  from_run h = elim h [
    | inl e ↦ inl e
    | inr h ↦ elim h [
      | inl e ↦ inr (inl e)
      | inr h ↦ elim h [
        | inl e ↦ inr (inr (inl e))
        | inr h ↦ elim h [
          | inl e ↦ inr (inr (inr (inl e)))
          | inr h ↦ elim h [
            | inl e ↦ inr (inr (inr (inr (inl e))))
            | inr h ↦ elim h [
              | inl e ↦ inr (inr (inr (inr (inr (inl e.0)))))
              | inr h ↦ elim h [
                | inl e ↦ eight e
                | inr h ↦ elim h [
                  | inl e ↦ inr (inr (inr (inr (inr (inr (inr (inl e)))))))
                  | inr h ↦ elim h [
                    | inl e ↦ inr (inr (inr (inr (inr (inr (inr (inr (inl e))))))))
                    | inr e ↦ inr (inr (inr (inr (inr (inr (inr (inr (inr (inl e)))))))))
                  ]
                ]
              ]
            ]
          ]
        ]
      ]
    ]
  ]

  own : IsOwnStatus deed n → IsStatus deed n
  own e = inr (inr (inr (inr (inr (inr (inr (inr (inr (inr e)))))))))

  unplayed_status : (files : Option Files) (name : List ℕ) (cause : S.Cause) → n ≡ status_of (refusal_for cause) → IsUnplayed files name cause → IsStatus deed n
  unplayed_status files name (has_unsaved line) e h = eight e
  unplayed_status files name (not_run cause) e h =
      from_run (end_status (E.call Run name files 0 0 0 0 None None [] []) n (refused_run files name cause n e (run_refused files name cause h)))

-- a script that isn't played, of whatever is done
pub unplayed_of : (deed : Deed) (c : Call) (cause : S.Cause) (text : List ℕ) → IsCause deed c (unplayed cause) text → IsUnplayed c.files c.script cause
unplayed_of (saves most) c cause text h = h.0
unplayed_of continues c cause text h = h.0

own_status : (deed : Deed) (c : Call) (n : ℕ) (text : List ℕ) → n ≡ 11 → IsCause deed c unwritten text → IsOwnStatus deed n
own_status (saves most) c n text e h = e
own_status continues c n text e h = absurd h.0

unfit_status : (deed : Deed) (c : Call) (n : ℕ) (text : List ℕ) → n ≡ 13 → IsCause deed c unfit text → IsOwnStatus deed n
unfit_status (saves most) c n text e h = absurd h.0
unfit_status continues c n text e h = e

by_end : (deed : Deed) (c : Call) (o : Output) (n : ℕ) (which : End) → n ≡ status_of_end c which → IsWhy deed c o which → IsStatus deed n
by_end deed c o n done e h = inl e
by_end deed c o n memory e h = inr (inr (inr (inr (inr (inr (inr (inl e)))))))
by_end deed c o n sink_fault e h = inr (inr (inr (inr (inr (inr (inr (inr (inr (inl e)))))))))
by_end deed c o n (refused (unplayed cause)) e h = unplayed_status deed n c.files c.script cause e (unplayed_of deed c cause h.0 h.1)
by_end deed c o n (refused (unread name)) e h = inr (inr (inr (inr (inr (inr (inr (inr (inl e))))))))
by_end deed c o n (refused (long found)) e h = inr (inr (inr (inr (inl e))))
by_end deed c o n (refused unwritten) e h = own deed n (own_status deed c n h.0 e h.1)
by_end deed c o n (refused unfit) e h = own deed n (unfit_status deed c n h.0 e h.1)

-- an end has one of the statuses
pub snapshot_status : (deed : Deed) (c : Call) (o : Output) (n : ℕ) → HasEnd deed c o n → IsStatus deed n
snapshot_status deed c o n h = by_end deed c o n h.which h.by_status h.why
