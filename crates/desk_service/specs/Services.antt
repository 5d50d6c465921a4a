-- What a service is started with, and where it listens (ours).
use Rattle.std.specs.{Prelude.{ℕ, ◌≡◌, ◌+◌, ◌≤◌, Bool, List, [], ◌∷◌, length, nat_le}, declared.net.socket_addr.SocketAddr.SocketAddr, Net.Socket.{socket_ip, socket_port}}
use Rattle.std.specs.declared.net.ip_addr.IpAddr.TheVariants as Ip
use Rattle.desk_service.specs.declared.{faults.ServeFault.ServeFault, faults.ServeFault.TheVariants.{FolderTaken, JournalTaken}, settings.Journaling.Journaling, settings.Journaling.TheVariants.{Off, InRoot, At}, settings.Settings.Settings}

-- 1 to 16 workers, as many sessions, and up to 16 readers; a client may be idle for a second at least
abbrev pub AreInRange : Settings → Type 0
AreInRange settings = (1 ≤ settings.workers) × (settings.workers ≤ 16) × (1 ≤ settings.sessions) × (settings.sessions ≤ 16) × (settings.readers ≤ 16) × (1 ≤ settings.idle)

-- the address is 127.0.0.1, which no other machine reaches, with this port
abbrev pub IsLocal : SocketAddr → ℕ → Type 0
IsLocal address port = (socket_ip address ≡ Ip.V4 (record { octets = 127 ∷ 0 ∷ 0 ∷ 1 ∷ [] })) × (socket_port address ≡ port)

-- why a service does not start whose journal another one has
abbrev pub taken_fault : Journaling → ServeFault
taken_fault Off = FolderTaken
taken_fault InRoot = FolderTaken
taken_fault (At path) = JournalTaken

-- whether a path has room in the address of a socket, with the zero behind it
abbrev pub fits_socket : List ℕ → Bool
fits_socket path = nat_le (length path + 1) 108
