-- What is done to a mailbox: a message more is one more in the back, and a mailbox is rewound by turning what was seen
-- round before its front, which keeps the order of the whole.
use Rattle.std.proofs.Common.{◌≡◌, [], ◌∷◌, ◌++◌, reverse, sym, refl, ap, ◌∙◌, subst, append_assoc}
use mathlib.Core.List.{reverse-cons}
use Rattle.store.specs.Heap.{Store, Put, Grows}
use Rattle.store.specs.declared.slot.Slot.{Slot}
use Rattle.code.specs.Turning.{Turned}
use Rattle.matching.specs.Mailboxes.{no_messages, Empty, Pushed, Rewound}
use Rattle.matching.specs.declared.mailbox.Mailbox.{Mailbox}
use Rattle.code.proofs.Chains.{chain_kept, chain_end, chain_more}
use Rattle.code.proofs.Turning.{turned_chain}

pub empty_mail : {b : Mailbox} → b ≡ record { seen = no_messages; front = no_messages; back = no_messages } → Empty b
empty_mail e =
    subst (λ (q : Mailbox). Empty q) (sym e)
    (record {
      mail = record {
        seen = [];
        front = [];
        back = [];
        seen_at = chain_end;
        front_at = chain_end;
        back_at = chain_end;
        order = refl;
      };
    })

pub pushed : {m m' : Store} {b : Mailbox} {message back : Slot} → Put m m' 31 message b.back back
    → Pushed m m' b message (record { seen = b.seen; front = b.front; back = back })
pushed p =
    record {
      mail = λ {ns} {mail} {v} h k.
          record {
            after = record {
              seen = h.seen;
              front = h.front;
              back = v ∷ h.back;
              seen_at = chain_kept p.kept h.seen_at;
              front_at = chain_kept p.kept h.front_at;
              back_at = chain_more p k h.back_at;
              order = ap (λ z. z ++ (v ∷ [])) h.order
                  ∙ (append_assoc (reverse h.seen) (h.front ++ reverse h.back) (v ∷ [])
                  ∙ ap (λ z. reverse h.seen ++ z)
                  (append_assoc h.front (reverse h.back) (v ∷ [])
                  ∙ ap (λ z. h.front ++ z) (sym (reverse-cons v h.back))));
            };
            seen_is = refl;
          };
      count = p.count;
    }

pub rewound : {m m' : Store} {b : Mailbox} {front : Slot} → Grows m m' → Turned 31 m m' b.seen b.front front
    → Rewound m m' b (record { seen = no_messages; front = front; back = b.back })
rewound g t =
    record {
      mail = λ h.
          record {
            after = record {
              seen = [];
              front = reverse h.seen ++ h.front;
              back = h.back;
              seen_at = chain_end;
              front_at = turned_chain t h.seen_at h.front_at;
              back_at = chain_kept g.kept h.back_at;
              order = h.order ∙ sym (append_assoc (reverse h.seen) h.front (reverse h.back));
            };
            seen_is = refl;
          };
      count = λ h. t.count h.seen_at;
    }
