-- How long a request of a browser may be (ours).
use Rattle.http1.specs.declared.conn.Limits.{Limits}
use Rattle.http_server.specs.declared.state.Config.{Config}

-- a head of 16 KiB, and lines of 64 KiB; no request is read while as many bytes of answers wait, and a read takes 8 KiB
abbrev pub page_limits : Config
page_limits = record { limits = record { max_head_len = 16384; max_extensions_len = 256; max_trailers_len = 1024 }; max_body_len = 65536; max_pending = 65536; read_size = 8192 }
