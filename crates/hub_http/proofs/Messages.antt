-- A message is the sum of what is put for it.
use Rattle.{std.proofs.Common.{◌≡◌, ℕ, List, ◌++◌, length, decimal, codes, sym, ap, ◌∙◌, append_assoc}, hub_http.specs.Replies.{message, challenge}}
use Rattle.hub_http.specs.inner.Messages.{reason_text, status_line, fields}

three : (a b c d : List ℕ) → ((a ++ b) ++ c) ++ d ≡ a ++ (b ++ (c ++ d))
three a b c d = append_assoc (a ++ b) c d ∙ append_assoc a b (c ++ d)

pub status_line-is : (status : ℕ) (d r : List ℕ) → d ≡ decimal status → r ≡ reason_text status → ((codes "HTTP/1.1 " ++ d) ++ codes " ") ++ r ≡ status_line status
status_line-is status d r p q =
    three (codes "HTTP/1.1 ") d (codes " ") r ∙ ap (λ x. codes "HTTP/1.1 " ++ (x ++ (codes " " ++ r))) p ∙ ap (λ x. codes "HTTP/1.1 " ++ (decimal status ++ (codes " " ++ x))) q

pub fields-is : (status n : ℕ) (d c : List ℕ) → d ≡ decimal n → c ≡ challenge status →
    (((codes "\r\nContent-Type: application/json\r\nContent-Length: " ++ d) ++ codes "\r\nConnection: close\r\n") ++ c) ++ codes "\r\n" ≡ fields status n
fields-is status n d c p q =
    append_assoc ((codes "\r\nContent-Type: application/json\r\nContent-Length: " ++ d) ++ codes "\r\nConnection: close\r\n") c (codes "\r\n")
    ∙ three (codes "\r\nContent-Type: application/json\r\nContent-Length: ") d (codes "\r\nConnection: close\r\n") (c ++ codes "\r\n")
    ∙ ap (λ x. codes "\r\nContent-Type: application/json\r\nContent-Length: " ++ (x ++ (codes "\r\nConnection: close\r\n" ++ (c ++ codes "\r\n")))) p
    ∙ ap (λ x. codes "\r\nContent-Type: application/json\r\nContent-Length: " ++ (decimal n ++ (codes "\r\nConnection: close\r\n" ++ (x ++ codes "\r\n")))) q

-- ---- the parts and the whole

line-joined : (d r rest : List ℕ) → (codes "HTTP/1.1 " ++ (d ++ (codes " " ++ r))) ++ rest ≡ codes "HTTP/1.1 " ++ ((d ++ codes " " ++ r) ++ rest)
line-joined d r rest =
    append_assoc (codes "HTTP/1.1 ") (d ++ (codes " " ++ r)) rest ∙ ap (λ x. codes "HTTP/1.1 " ++ (x ++ rest)) (sym (append_assoc d (codes " ") r))

fields-joined : (d c body : List ℕ) → (codes "\r\nContent-Type: application/json\r\nContent-Length: " ++ (d ++ (codes "\r\nConnection: close\r\n" ++ (c ++ codes "\r\n")))) ++ body
    ≡ codes "\r\nContent-Type: application/json\r\nContent-Length: " ++ (d ++ (codes "\r\nConnection: close\r\n" ++ (c ++ (codes "\r\n" ++ body))))
fields-joined d c body =
    append_assoc (codes "\r\nContent-Type: application/json\r\nContent-Length: ") (d ++ (codes "\r\nConnection: close\r\n" ++ (c ++ codes "\r\n"))) body
    ∙ ap (λ x. codes "\r\nContent-Type: application/json\r\nContent-Length: " ++ x) (append_assoc d (codes "\r\nConnection: close\r\n" ++ (c ++ codes "\r\n")) body)
    ∙ ap (λ x. codes "\r\nContent-Type: application/json\r\nContent-Length: " ++ (d ++ x)) (append_assoc (codes "\r\nConnection: close\r\n") (c ++ codes "\r\n") body)
    ∙ ap (λ x. codes "\r\nContent-Type: application/json\r\nContent-Length: " ++ (d ++ (codes "\r\nConnection: close\r\n" ++ x))) (append_assoc c (codes "\r\n") body)

pub message-is : (status n : ℕ) (body : List ℕ) → n ≡ length body → (status_line status ++ fields status n) ++ body ≡ message status body
unfolding message
message-is status n body e =
    append_assoc (status_line status) (fields status n) body
    ∙ ap (λ x. status_line status ++ x) (fields-joined (decimal n) (challenge status) body)
    ∙ line-joined (decimal status) (reason_text status) _
    ∙ ap (λ x. codes "HTTP/1.1 " ++ ((decimal status ++ codes " " ++ reason_text status) ++ (codes "\r\nContent-Type: application/json\r\nContent-Length: " ++ (decimal x ++
    (codes "\r\nConnection: close\r\n" ++ (challenge status ++ (codes "\r\n" ++ body))))))) e
