-- The statuses of the commands are those of a call.
use Rattle.std.proofs.Common.{◌≡◌, ◌⊎◌, inl, inr, ℕ, [], None, arith}
use Rattle.transform_command.specs.Sources.{malformed, float, deep, reserved, invalid}
use Rattle.transform_command.specs.Ends.{IsRefusal}
use Rattle.script_command.specs.declared.way.Way.{Way}
use Rattle.script_command.specs.Ends.{IsStatus}
use Rattle.script_command.specs.SnapshotCalls.{Deed, continues, saves}
use Rattle.script_command.specs.SnapshotEnds as S
use Rattle.script_command.specs.SnapshotEnds.{IsOwnStatus}

abbrev IsOne : ℕ → Type 0
IsOne n = (n ≡ 0) ⊎ (n ≡ 2) ⊎ IsRefusal n ⊎ (n ≡ 8) ⊎ (n ≡ 9) ⊎ (n ≡ 10) ⊎ (n ≡ 11) ⊎ (n ≡ 12) ⊎ (n ≡ 13)

refusal : (n : ℕ) → IsRefusal n → IsOne n
refusal n h = inr (inr (inl h))

-- of a module that is rewritten
pub transform_status : (n : ℕ) → (n ≡ 0) ⊎ IsRefusal n ⊎ (n ≡ 9) ⊎ (n ≡ 10) ⊎ (n ≡ 11) ⊎ (n ≡ 12)
    → (n ≡ 0) ⊎ (n ≡ 2) ⊎ IsRefusal n ⊎ (n ≡ 8) ⊎ (n ≡ 9) ⊎ (n ≡ 10) ⊎ (n ≡ 11) ⊎ (n ≡ 12) ⊎ (n ≡ 13)
transform_status n h = elim h [
  | inl zero ↦ inl zero
  | inr a ↦ elim a [
    | inl refused ↦ inr (inr (inl refused))
    | inr b ↦ elim b [
      | inl nine ↦ inr (inr (inr (inr (inl nine))))
      | inr c ↦ elim c [
        | inl ten ↦ inr (inr (inr (inr (inr (inl ten)))))
        | inr d ↦ elim d [
          | inl eleven ↦ inr (inr (inr (inr (inr (inr (inl eleven))))))
          | inr twelve ↦ inr (inr (inr (inr (inr (inr (inr (inl twelve)))))))
        ]
      ]
    ]
  ]
]

-- of what plays a script: whatever is said of 7, and of the last ones
played_status : {Seven Last : Type 0} (n : ℕ) → (Seven → n ≡ 7) → (Last → IsOne n)
    → (n ≡ 0) ⊎ (n ≡ 3) ⊎ (n ≡ 4) ⊎ (n ≡ 5) ⊎ (n ≡ 6) ⊎ Seven ⊎ (n ≡ 8) ⊎ (n ≡ 9) ⊎ (n ≡ 10) ⊎ Last → IsOne n
played_status n seven last h = elim h [
  | inl zero ↦ inl zero
  | inr a ↦ elim a [
    | inl three ↦ refusal n (malformed 0, three)
    | inr b ↦ elim b [
      | inl four ↦ refusal n (float 0, four)
      | inr c ↦ elim c [
        | inl five ↦ refusal n (invalid None 0 0, five)
        | inr d ↦ elim d [
          | inl six ↦ refusal n (deep 0, six)
          | inr e ↦ elim e [
            | inl x ↦ refusal n (reserved [], seven x)
            | inr f ↦ elim f [
              | inl eight ↦ inr (inr (inr (inl eight)))
              | inr g ↦ elim g [
                | inl nine ↦ inr (inr (inr (inr (inl nine))))
                | inr k ↦ elim k [ inl ten ↦ inr (inr (inr (inr (inr (inl ten))))) | inr x ↦ last x ]
              ]
            ]
          ]
        ]
      ]
    ]
  ]
]

of_sink : (n : ℕ) → n ≡ 12 → IsOne n
of_sink n twelve = inr (inr (inr (inr (inr (inr (inr (inl twelve)))))))

-- of a script
pub script_status : (way : Way) (n : ℕ) → IsStatus way n → (n ≡ 0) ⊎ (n ≡ 2) ⊎ IsRefusal n ⊎ (n ≡ 8) ⊎ (n ≡ 9) ⊎ (n ≡ 10) ⊎ (n ≡ 11) ⊎ (n ≡ 12) ⊎ (n ≡ 13)
script_status way n h = played_status n (λ seven. seven.0) (of_sink n) h

-- one that no script has but a snapshot
own_status : (deed : Deed) (n : ℕ) → IsOwnStatus deed n → IsOne n
own_status (saves most) n eleven = inr (inr (inr (inr (inr (inr (inl eleven))))))
own_status continues n thirteen = inr (inr (inr (inr (inr (inr (inr (inr thirteen)))))))

-- of a snapshot
pub snapshot_status : (deed : Deed) (n : ℕ) → S.IsStatus deed n → (n ≡ 0) ⊎ (n ≡ 2) ⊎ IsRefusal n ⊎ (n ≡ 8) ⊎ (n ≡ 9) ⊎ (n ≡ 10) ⊎ (n ≡ 11) ⊎ (n ≡ 12) ⊎ (n ≡ 13)
snapshot_status deed n h = played_status n (λ seven. seven) (λ last. elim last [ inl twelve ↦ of_sink n twelve | inr own ↦ own_status deed n own ]) h

pub never_two : (way : Way) (n : ℕ) → IsStatus way n → n ≡ 2 → ⊥
never_two way n h e = elim h [
  | inl a ↦ absurd (omega (arith, a, e))
  | inr h ↦ elim h [
    | inl a ↦ absurd (omega (arith, a, e))
    | inr h ↦ elim h [
      | inl a ↦ absurd (omega (arith, a, e))
      | inr h ↦ elim h [
        | inl a ↦ absurd (omega (arith, a, e))
        | inr h ↦ elim h [
          | inl a ↦ absurd (omega (arith, a, e))
          | inr h ↦ elim h [
            | inl a ↦ absurd (omega (arith, a.0, e))
            | inr h ↦ elim h [
              | inl a ↦ absurd (omega (arith, a, e))
              | inr h ↦ elim h [
                | inl a ↦ absurd (omega (arith, a, e))
                | inr h ↦ elim h [ inl a ↦ absurd (omega (arith, a, e)) | inr a ↦ absurd (omega (arith, a, e)) ]
              ]
            ]
          ]
        ]
      ]
    ]
  ]
]
